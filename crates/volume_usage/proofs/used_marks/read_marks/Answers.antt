use Rattle.std.proofs.Common.{◌≡◌, ◌+◌, ℕ, [], get_or, sym, ◌∙◌, ap, arith}
use Rattle.std.proofs.lemmas.List.{take_all}
use Rattle.volume_usage.specs.Usage.{used_in}
use Rattle.volume_usage.proofs.used_marks.read_marks.Goals as goal

pub returns-clause-value : goal.returns-clause-value
returns-clause-value g c tells =
    let done = c.in_ok-load.ensures in
    let at : c.args.block + 0 ≡ c.args.block = omega arith in
    c.used_blocks.ensures
    ∙ ap used_in (sym (take_all 4096 c.load.new.into (omega (arith, done.room)))
    ∙ done.value tells 0 (omega arith)
    ∙ ap (λ (n : ℕ). get_or c.args.journal.now.blocks n []) at)
