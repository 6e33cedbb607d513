-- A field has another name where no colon stands at the end of that name.
use Rattle.std.specs.Prelude.{◌≡◌, ◌<◌, ℕ, Bool, true, false, not, ◌==◌, List, [], ◌∷◌, length, take_while}
use Rattle.std.specs.Char.{to_ascii_lowercase}
use Rattle.std.specs.Str.{str_eq_ignore_ascii_case}
use Rattle.std.proofs.Common.{sym, refl, ◌∙◌, ap, arith, get_or, if◌then◌else◌, subst}
use Rattle.std.proofs.lemmas.Bool.{eqb-true, false_from_ne_true, not_from_false, true_from_ne_false, true≢false}
use Rattle.std.proofs.lemmas.List.{length-map}
use Rattle.std.proofs.lemmas.List.Sums.{take_while-cons}
use Rattle.std.proofs.lemmas.Slice.Eq.{bytes_eq-Decides}
use Rattle.model.specs.Stream.{Octets}
use Rattle.model.specs.Article.{name_of}

stops_past : (p : ℕ → Bool) (x : ℕ) (xs : List ℕ) (passes : Bool) → p x ≡ passes
    → (length (take_while p xs) < length xs → p (get_or xs (length (take_while p xs)) 0) ≡ false)
    → length (take_while p (x ∷ xs)) < length (x ∷ xs) → p (get_or (x ∷ xs) (length (take_while p (x ∷ xs))) 0) ≡ false
stops_past p x xs true is later =
    subst (λ (l : List ℕ). length l < length (x ∷ xs) → p (get_or (x ∷ xs) (length l) 0) ≡ false)
    (sym (take_while-cons p x xs ∙ ap (λ b. if b then x ∷ take_while p xs else []) is)) (λ low. later (omega (arith, low)))
stops_past p x xs false is later =
    subst (λ (l : List ℕ). length l < length (x ∷ xs) → p (get_or (x ∷ xs) (length l) 0) ≡ false)
    (sym (take_while-cons p x xs ∙ ap (λ b. if b then x ∷ take_while p xs else []) is)) (λ low. is)

stops : (p : ℕ → Bool) (xs : List ℕ) → length (take_while p xs) < length xs → p (get_or xs (length (take_while p xs)) 0) ≡ false
stops p [] low = absurd (omega (arith, low))
stops p (x ∷ xs) low = stops_past p x xs (p x) refl (stops p xs) low

is_colon : (x : ℕ) → not (x == 58) ≡ false → x ≡ 58
is_colon x is = eqb-true x 58 (true_from_ne_false (x == 58) (λ no. true≢false (sym (not_from_false (x == 58) no) ∙ is)))

pub other-name : (name field : Octets) → length name < length field → (get_or field (length name) 0 ≡ 58 → ⊥)
    → false ≡ str_eq_ignore_ascii_case (name_of field) name
other-name name field low other = sym (false_from_ne_true (str_eq_ignore_ascii_case (name_of field) name) (λ yes.
    let same : length (name_of field) ≡ length name = sym (length-map (name_of field) to_ascii_lowercase)
    ∙ ap (λ (l : List ℕ). length l) ((bytes_eq-Decides _ _).0 yes) ∙ length-map name to_ascii_lowercase in
    other (is_colon (get_or field (length name) 0) (subst (λ (n : ℕ). not (get_or field n 0 == 58) ≡ false) same
    (stops (λ x. not (x == 58)) field (omega (arith, low, same)))))))
