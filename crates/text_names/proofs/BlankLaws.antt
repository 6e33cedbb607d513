-- Blanks, and the set that bstr searches for.
use Rattle.std.specs.Prelude.{◌≡◌, ℕ, Bool, true, false, not, ◌||◌, ◌==◌, List, [], ◌∷◌}
use Rattle.std.proofs.Common.{sym, ◌∙◌, refl}
use Rattle.std.proofs.lemmas.Bool.{true≢false}
use Rattle.bstr.specs.Bytes.{is_in, not_in}
use Rattle.model.specs.Names.{is_blank}

-- SP and TAB
abbrev pub blanks : List ℕ
blanks = 32 ∷ 9 ∷ []

in_blanks : (x : ℕ) → is_in blanks x ≡ is_blank x
unfolding is_in
in_blanks x = by_test (x == 32) (x == 9) where
  by_test : (a b : Bool) → (a || (b || false)) ≡ (a || b)
  by_test true b = refl
  by_test false true = refl
  by_test false false = refl

-- what is not outside the set is blank, and what is outside is not
pub inside : (x : ℕ) → ¬ (not_in blanks x ≡ true) → is_blank x ≡ true
inside x never = sym (in_blanks x) ∙ by_test (is_in blanks x) never where
  by_test : (b : Bool) → ¬ (not b ≡ true) → b ≡ true
  by_test true n = refl
  by_test false n = absurd (n refl)

pub outside : (x : ℕ) → not_in blanks x ≡ true → is_blank x ≡ false
outside x is = sym (in_blanks x) ∙ by_test (is_in blanks x) is where
  by_test : (b : Bool) → not b ≡ true → b ≡ false
  by_test true e = absurd (true≢false (sym e))
  by_test false e = refl
