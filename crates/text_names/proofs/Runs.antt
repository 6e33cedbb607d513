-- Runs of octets that pass a test.
use Rattle.std.specs.Prelude.{◌≡◌, ℕ, Bool, true, false, ◌==◌, ◌&&◌, nat_le, List, [], ◌∷◌, length}
use Rattle.std.specs.List.{list_all}
use Rattle.std.proofs.Common.{◌∙◌, ap, sym, arith}
use Rattle.std.proofs.lemmas.Bool.{le-leb}
use Rattle.model.specs.Names.{is_run_of}

-- a first test that holds leaves the second
pub and_second : (a b r : Bool) → a ≡ true → r ≡ b → r ≡ (a && b)
and_second a b r holds same = same ∙ ap (λ x. x && b) (sym holds)

-- a text that isn't empty is a run of octets that all pass
pub run_of : (p : ℕ → Bool) (xs : List ℕ) (r : Bool) → false ≡ (length xs == 0) → r ≡ list_all p xs → r ≡ is_run_of p xs
run_of p [] r some all = absurd (cc)
run_of p (x ∷ xs) r some all = and_second (nat_le 1 (length (x ∷ xs))) (list_all p (x ∷ xs)) r
    (le-leb 1 (length (x ∷ xs)) (omega arith)) all
