use Rattle.std.proofs.Common.{[], arith, refl}
use Rattle.std.proofs.lemmas.List.{ext_get_or}
use Rattle.spool_admission.proofs.article_admission.are_same.Goals as goal

pub returns : goal.returns
returns c = (
  λ yes. ext_get_or [] c.args.names.now c.args.others.now c.if-names-others.false
      (λ k low. c.loop-i.invariant k (omega (arith, c.loop-i-test.false))),
  λ same. refl,
)
