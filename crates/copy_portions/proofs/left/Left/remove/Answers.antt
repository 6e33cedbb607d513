use Rattle.std.proofs.Common.{List, Bool, false, get_or, set, sym, ◌∙◌, ap, arith}
use Rattle.copy_portions.proofs.Flags.{flagged_more}
use Rattle.copy_portions.proofs.left.Left.remove.Goals as goal

pub loop-number-preserved : goal.loop-number-preserved
loop-number-preserved c =
    let at = c.loop-number.number-index in
    let numbers = c.args.numbers.now in
    c.set.ensures
    ∙ ap (λ (flags : List Bool). set flags (get_or numbers at 0) false) c.loop-number.invariant
    ∙ sym (flagged_more false c.args.self.now numbers at (omega arith))
