-- The numbers of groups.
use Rattle.std.proofs.Common.{◌≡◌, ◌≢◌, ℕ, zero, suc, ◌-◌, ◌<◌, ◌≤◌, List, [], ◌∷◌, refl, sym, ◌∙◌, ap, arith, inl, inr, Bool, true, false}
use Rattle.std.proofs.Common.{cond}
use Rattle.std.specs.Prelude.{length, nat_lt, Some, None, slice_get, ◌==◌}
use Rattle.std.proofs.lemmas.Bool.{cases_lt, eqb-false, le-ltb, lt-ltb, ltb-false, ne_eqb}
use Rattle.model.specs.Stream.{Octets}
use Rattle.model.specs.Spool.{Spool, NewsArticle, Contents, article_at, contents, count, high, low, numbered, numbered_articles}
use Rattle.model.proofs.HoldsOne.{high_few}
use Rattle.model.proofs.Numbers.{count_is}
use Rattle.model.proofs.Within.{lows_stay_within}
use Rattle.model_rfc.specs.Grammar.{greatest_number}
use Rattle.model_rfc.specs.States.{IsSpool, IsReported}

pub high_within : (host : Octets) (S : Spool) (g : Octets) → IsSpool host S → high S g < greatest_number
high_within host S g is = omega (arith, high_few S g, is.few)

pub low_within : (host : Octets) (S : Spool) (g : Octets) → IsSpool host S → low S g ≤ greatest_number
low_within host S g is = omega (arith, high_few S g, is.few, lows_stay_within host S g is.lawful)

pub count_within : (host : Octets) (S : Spool) (g : Octets) → IsSpool host S → count (contents S g) ≤ greatest_number
count_within host S g is = omega (arith, high_few S g, is.few)

pub reported : (host : Octets) (S : Spool) (g : Octets) → IsSpool host S
    → IsReported (length (numbered_articles (contents S g))) (low S g) (high S g) (count (contents S g))
reported host S g is =
    let within = lows_stay_within host S g is.lawful in
    let same = count_is S g in
    record {
      no_fewer = omega arith;
      no_more = omega arith;
      empty = λ none. (omega arith, omega arith);
    }

slice_within : {A : Type 0} (xs : List A) (i : ℕ) (a : A) → slice_get xs i ≡ Some a → i < length xs
slice_within [] i a is = absurd (cc)
slice_within (x ∷ xs) zero a is = omega arith
slice_within (x ∷ xs) (suc i) a is = omega (arith, slice_within xs i a is)

numbered_within : (filed : List NewsArticle) (n : ℕ) (a : NewsArticle) → numbered filed n ≡ Some a
    → (1 ≤ n) × (n ≤ length filed) × (slice_get filed (n - 1) ≡ Some a)
numbered_within filed n a is = by_zero (n == 0) refl is where
  by_zero : (b : Bool) → (n == 0) ≡ b → cond b None (slice_get filed (n - 1)) ≡ Some a
      → (1 ≤ n) × (n ≤ length filed) × (slice_get filed (n - 1) ≡ Some a)
  by_zero true none same = absurd (cc)
  by_zero false some same = let other : n ≢ 0 = eqb-false n 0 some in
      (omega arith, omega (arith, slice_within filed (n - 1) a same), same)

-- an article in a group has a number from its low to its high
pub at_within : (c : Contents) (n : ℕ) (a : NewsArticle) → article_at c n ≡ Some a
    → (1 ≤ n) × (n ≤ length c.filed) × (c.low ≤ n) × (slice_get c.filed (n - 1) ≡ Some a)
at_within c n a is = by_low (nat_lt n c.low) refl is where
  by_low : (b : Bool) → nat_lt n c.low ≡ b → cond b None (numbered c.filed n) ≡ Some a
      → (1 ≤ n) × (n ≤ length c.filed) × (c.low ≤ n) × (slice_get c.filed (n - 1) ≡ Some a)
  by_low true below same = absurd (cc)
  by_low false above same = let at = numbered_within c.filed n a same in (at.0, at.1, ltb-false n c.low above, at.2)

-- ---- which numbers have an article

slice_there : {A : Type 0} (xs : List A) (i : ℕ) → i < length xs → (a : A) × (slice_get xs i ≡ Some a)
slice_there [] i within = absurd (omega arith)
slice_there (x ∷ xs) zero within = (x, refl)
slice_there (x ∷ xs) (suc i) within = slice_there xs i (omega arith)

slice_out : {A : Type 0} (xs : List A) (i : ℕ) → length xs ≤ i → slice_get xs i ≡ None
slice_out [] i out = refl
slice_out (x ∷ xs) zero out = absurd (omega arith)
slice_out (x ∷ xs) (suc i) out = slice_out xs i (omega arith)

pub at_there : (c : Contents) (n : ℕ) → 1 ≤ n → c.low ≤ n → n ≤ length c.filed → (a : NewsArticle) × (article_at c n ≡ Some a)
at_there c n some from to =
    let found = slice_there c.filed (n - 1) (omega arith) in (
      found.0,
      ap (λ b. cond b None (numbered c.filed n)) (le-ltb n c.low from)
          ∙ ap (λ b. cond b None (slice_get c.filed (n - 1))) (ne_eqb n 0 (λ none. omega arith)) ∙ found.1,
    )

pub at_below : (c : Contents) (n : ℕ) → n < c.low → article_at c n ≡ None
at_below c n below = ap (λ b. cond b None (numbered c.filed n)) (lt-ltb n c.low below)

pub at_above : (c : Contents) (n : ℕ) → length c.filed < n → article_at c n ≡ None
at_above c n above = by_low (nat_lt n c.low) where
  by_low : (b : Bool) → cond b None (numbered c.filed n) ≡ None
  by_low true = refl
  by_low false = ap (λ b. cond b None (slice_get c.filed (n - 1))) (ne_eqb n 0 (λ none. omega arith))
      ∙ slice_out c.filed (n - 1) (omega arith)

-- a number from the low on without an article is above the high
pub none_up : (c : Contents) (n : ℕ) → 1 ≤ n → c.low ≤ n → article_at c n ≡ None → length c.filed < n
none_up c n some from none = elim (cases_lt (length c.filed) n) [
  | inl out ↦ out
  | inr within ↦ let found = at_there c n some from within in let e : Some found.0 ≡ None = sym found.1 ∙ none in absurd (cc)
]
