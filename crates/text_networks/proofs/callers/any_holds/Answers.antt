use Rattle.std.proofs.Common.{◌≡◌, sym, subst, refl, ◌∙◌, below_more}
use Rattle.std.proofs.lemmas.Bool.{false≢true}
use Rattle.std.proofs.lemmas.List.{get_or_default}
use Rattle.text_networks.specs.Networks.{Holds}
use Rattle.text_networks.proofs.callers.any_holds.Goals as goal

pub loop-network-preserved : goal.loop-network-preserved
loop-network-preserved c =
    let i = c.loop-network.network-index in
    let networks = c.args.networks.now in
    below_more _ _ c.loop-network.invariant
    (λ n is holds.
    let own = c.network-item.result in
    let same : n ≡ own = sym is ∙ get_or_default networks i n own c.loop-network-test.true ∙ sym c.network-item.is in
    false≢true (sym c.if-contains.false ∙ c.contains.ensures.1 (subst (λ m. Holds m c.args.address) same holds)))

pub returns-then-contains : goal.returns-then-contains
returns-then-contains c = (
  λ _. (
    c.loop-network.network-index,
    c.network-item.result,
    c.loop-network-test.true,
    sym c.network-item.is,
    c.contains.ensures.0 c.if-contains.true,
  ),
  λ _. refl,
)
