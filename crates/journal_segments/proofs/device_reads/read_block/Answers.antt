use Rattle.std.proofs.Common.{◌≡◌, ℕ, length, ◌∙◌, ap, arith}
use Rattle.std.proofs.lemmas.List.{take_at}
use Rattle.std.proofs.lemmas.Result.{on_ok_weaker}
use Rattle.disk.specs.Image.{part}
use Rattle.journal_segments.proofs.device_reads.read_block.Goals as goal

pub returns-clause-value : goal.returns-clause-value
returns-clause-value g c t =
    let slice : length c.as_mut_slice.result.now ≡ 4096 = ap length c.as_mut_slice.ensures.value ∙ c.requires.room in
    let size : length c.read_part.new.into ≡ c.args.into.now.len =
    omega (arith, c.read_part.auto.into, slice, c.requires.room, c.args.into.now.ok.0) in
    on_ok_weaker c.read_part.result (λ e. take_at c.read_part.new.into _ c.args.into.now.len size ∙ e
    ∙ ap (λ (n : ℕ). part c.start_of.result n (g.D.Disk.device c.args.disk.now).content) slice
    ∙ ap (λ (n : ℕ). part n 4096 (g.D.Disk.device c.args.disk.now).content) c.start_of.ensures) (c.read_part.ensures.value t)
