-- The first changes of a renewed spool.
use Rattle.std.proofs.Common.{◌≡◌, ℕ, zero, suc, List, [], ◌∷◌, ◌++◌, refl, sym, ◌∙◌, ap, arith}
use Rattle.std.specs.Prelude.{Some, length, slice_get, take}
use Rattle.std.proofs.Math.Seq.{take-length}
use Rattle.std.proofs.lemmas.List.{length-append}
use Rattle.model.specs.Spool.{Spool}
use Rattle.model.specs.declared.change.Change.{Change}
use Rattle.model_renewed.specs.Renewed.{renewed}
use Rattle.model_renewed.proofs.Renewing.{renewed_length}
use Rattle.volume_renewing.specs.Renewing.{IsFront}

-- the first of the first are some first ones
pub first_of_first : {X : Type 0} (m n : ℕ) (xs : List X) → (k : ℕ) × (take m (take n xs) ≡ take k xs)
first_of_first zero n xs = (0, refl)
first_of_first (suc m) zero xs = (0, refl)
first_of_first (suc m) (suc n) [] = (0, refl)
first_of_first (suc m) (suc n) (x ∷ xs) = let rest = first_of_first m n xs in (suc rest.0, ap (λ ys. x ∷ ys) rest.1)

-- one more is the next
pub one_more : {X : Type 0} (xs : List X) (k : ℕ) (x : X) → slice_get xs k ≡ Some x → take (suc k) xs ≡ take k xs ++ x ∷ []
one_more [] k x is = absurd (cc)
one_more (y ∷ ys) zero x is = let one : y ≡ x = cc in ap (λ z. z ∷ []) one
one_more (y ∷ ys) (suc k) x is = ap (λ zs. y ∷ zs) (one_more ys k x is)

pub front_more : (S R T : Spool) (c : Change) → IsFront S R → slice_get (renewed S) (length R) ≡ Some c → T ≡ R ++ c ∷ [] → IsFront S T
front_more S R T c front is more =
    let size : length T ≡ suc (length R) = omega (arith, ap (λ (Q : Spool). length Q) more, length-append R (c ∷ [])) in
    more ∙ ap (λ (Q : Spool). Q ++ c ∷ []) front ∙ sym (one_more (renewed S) (length R) c is)
    ∙ ap (λ (n : ℕ). take n (renewed S)) (sym size)

-- as many as the spool has are all
pub whole_front : (S R : Spool) → IsFront S R → length R ≡ length S → R ≡ renewed S
whole_front S R front all =
    front ∙ ap (λ (n : ℕ). take n (renewed S)) (all ∙ sym (renewed_length S)) ∙ take-length (renewed S)
