use Rattle.std.proofs.Common.{rules, refl, sym, ◌∙◌}
use Rattle.std.proofs.lemmas.Bool.{true≢false}
use Rattle.session_lookups.proofs.Standing.{not_found}
use Rattle.spool_admission.proofs.Testing.{some_by}
use Rattle.spool_admission.proofs.article_admission.may_have_id.Goals as goal

pub returns-in-Some : goal.returns-in-Some
returns-in-Some c = λ S is. (λ yes. absurd (true≢false (sym yes)), λ may. absurd (some_by _ _ (c.in-Some.ensures S is) may.new))

pub returns-then-not-is_of_host : goal.returns-then-not-is_of_host
returns-then-not-is_of_host c = λ S is. (
  λ yes. record {
    new = not_found _ (c.in_default.ensures S is);
    own = λ own. absurd (true≢false (sym own ∙ sym c.is_of_host.ensures ∙ c.if-not-is_of_host.true));
  },
  λ may. refl,
)

pub returns : goal.returns
returns c = search rules
