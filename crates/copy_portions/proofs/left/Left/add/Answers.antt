use Rattle.std.proofs.Common.{List, Bool, true, get_or, set, sym, ◌∙◌, ap, arith}
use Rattle.copy_portions.proofs.Flags.{flagged_more}
use Rattle.copy_portions.proofs.left.Left.add.Goals as goal

pub loop-number-preserved : goal.loop-number-preserved
loop-number-preserved c =
    let at = c.loop-number.number-index in
    let numbers = c.args.numbers.now in
    c.set.ensures
    ∙ ap (λ (flags : List Bool). set flags (get_or numbers at 0) true) c.loop-number.invariant
    ∙ sym (flagged_more true c.args.self.now numbers at (omega arith))
