use Rattle.std.proofs.Common.{◌≡◌, ℕ, length, ◌∙◌, ap, arith}
use Rattle.std.proofs.lemmas.List.{take_at}
use Rattle.std.proofs.lemmas.Result.{on_ok_weaker}
use Rattle.disk.specs.Image.{part}
use Rattle.journal_gates.proofs.read_first.Goals as goal

pub returns-clause-value : goal.returns-clause-value
returns-clause-value g c t =
    let slice : length c.as_mut_slice.result.now ≡ 4096 = ap length c.as_mut_slice.ensures.value ∙ c.requires.room in
    let size : length c.read.new.into ≡ c.args.block.now.len =
    omega (arith, c.read.auto.into, slice, c.requires.room, c.args.block.now.ok.0) in
    on_ok_weaker c.read.result (λ e. take_at c.read.new.into _ c.args.block.now.len size ∙ e
    ∙ ap (λ (n : ℕ). part 0 n (g.D.Disk.device c.args.disk.now).content) slice) (c.read.ensures.value t)
