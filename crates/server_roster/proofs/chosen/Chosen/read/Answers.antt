use Rattle.std.proofs.Common.{sym, ◌∙◌, subst}
use Rattle.text_networks.specs.Texts.{IsNetworkText}
use Rattle.server_roster.proofs.chosen.Chosen.read.Goals as goal

-- src/chosen.rt:22:5
pub returns-in-None-clause-none : goal.returns-in-None-clause-none
returns-in-None-clause-none c = (
  sym c.number_of.ensures ∙ c.in_default.is,
  λ utf8 a bits. subst (λ t. IsNetworkText t a bits → ⊥) c.in-Ok.ensures.cases.0 (c.in-None.ensures.none a bits),
)
