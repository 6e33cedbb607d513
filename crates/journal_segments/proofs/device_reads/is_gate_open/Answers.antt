use Rattle.std.proofs.Common.{◌≡◌, ◌*◌, ℕ, ◌∙◌, ap}
use Rattle.disk.specs.Image.{part}
use Rattle.model.specs.Volume.{gate_place}
use Rattle.journal_segments.proofs.Loading.{gate_at}
use Rattle.journal_segments.proofs.device_reads.is_gate_open.Goals as goal

pub returns-clause-value : goal.returns-clause-value
returns-clause-value g c t =
    let place : c.start_of.result ≡ 4096 * gate_place c.args.place = c.start_of.ensures ∙ ap (λ (n : ℕ). 4096 * n) c.gate_block.ensures in
    gate_at c.args.place c.args.epoch (g.D.Disk.device c.args.disk.now).content c.read_part.new.into (c.requires.epoch t)
    (c.in_ok-read_part.ensures.value t
    ∙ ap (λ (n : ℕ). part n 1 (g.D.Disk.device c.args.disk.now).content) place)
