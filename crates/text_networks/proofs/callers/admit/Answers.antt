use Rattle.std.proofs.Common.{refl, sym, subst, ◌∙◌}
use Rattle.std.proofs.lemmas.Bool.{false≢true}
use Rattle.text_networks.specs.Networks.{MayCall}
use Rattle.text_networks.proofs.callers.admit.Goals as goal

pub returns-then-may_call-clause-some : goal.returns-then-may_call-clause-some
returns-then-may_call-clause-some c = record {
  address = refl;
  may = subst (MayCall c.args.networks.now) c.ip.ensures (c.may_call.ensures.0 c.if-may_call.true);
}

pub returns-else-may_call-clause-none : goal.returns-else-may_call-clause-none
returns-else-may_call-clause-none c may =
    false≢true (sym c.if-may_call.false ∙ c.may_call.ensures.1 (subst (MayCall c.args.networks.now) (sym c.ip.ensures) may))
