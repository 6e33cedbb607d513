-- A line of the overview is its number and the rest.
use Rattle.std.specs.Prelude.{◌≡◌, ℕ, ◌++◌, decimal}
use Rattle.std.proofs.Common.{append_assoc}
use Rattle.model.specs.Stream.{Octets}
use Rattle.model.specs.Article.{overview_line}
use Rattle.text_overview.specs.Rest.{overview_rest}

pub line-number-rest : (number : ℕ) (text : Octets) → overview_line number text ≡ decimal number ++ overview_rest text
line-number-rest number text = simp append_assoc

-- a mark and a text, five times
pub joined-five : (l0 l1 l2 l3 l4 l5 tab a b c d e : Octets) → l1 ≡ l0 ++ tab ++ a → l2 ≡ l1 ++ tab ++ b → l3 ≡ l2 ++ tab ++ c
    → l4 ≡ l3 ++ tab ++ d → l5 ≡ l4 ++ tab ++ e → l5 ≡ l0 ++ (tab ++ a ++ tab ++ b ++ tab ++ c ++ tab ++ d ++ tab ++ e)
joined-five l0 l1 l2 l3 l4 l5 tab a b c d e e1 e2 e3 e4 e5 = rw (e5, e4, e3, e2, e1) (simp append_assoc)
