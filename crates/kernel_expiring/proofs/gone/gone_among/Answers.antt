use Rattle.std.proofs.Common.{◌+◌, sym, ◌∙◌, ap, subst}
use Rattle.std.specs.Prelude.{is_some}
use Rattle.kernel_expiring.proofs.Counted.{IsCount, none_more, one_more}
use Rattle.kernel_expiring.proofs.gone.gone_among.Goals.{then-is_some, else-is_some}
use Rattle.kernel_expiring.proofs.gone.gone_among.Goals as goal

pub loop-passed-preserved : goal.loop-passed-preserved
loop-passed-preserved g c =
    let S = g.L.LookUps.changes c.args.spool.now in
    let asked = ap is_some (sym c.gone_at.ensures) ∙ sym c.is_some.ensures in
    elim c.if-is_some.branch [
      | then-is_some w ↦ subst (IsCount S c.args.first (c.loop-passed.passed + 1)) (sym w.gone-is)
          (one_more S c.args.first c.loop-passed.passed c.loop-passed.gone (asked ∙ w.if-is_some.true) c.loop-passed.invariant)
      | else-is_some w ↦ subst (IsCount S c.args.first (c.loop-passed.passed + 1)) (sym w.gone-is)
          (none_more S c.args.first c.loop-passed.passed c.loop-passed.gone (asked ∙ w.if-is_some.false) c.loop-passed.invariant)
    ]
