-- Blocks with images laid over.
use Rattle.std.proofs.Common.{◌≡◌, ◌≢◌, inl, inr, ◌<◌, ◌≤◌, ℕ, zero, suc, List, [], ◌∷◌, length, get_or, set, refl, sym, ◌∙◌, ap}
use Rattle.std.proofs.Common.{arith, length-set}
use Rattle.std.proofs.lemmas.List.{ext_get_or, set-get_or, get_or-set_same, get_or-set_other, get_or_past}
use Rattle.std.proofs.lemmas.Bool.{cases_eq, cases_lt}
use Rattle.model.specs.Volume.{laid_over}

-- where the blocks are the images already
pub laid_over_done : (xs : List (List ℕ)) (ns : List ℕ) (images : List (List ℕ))
    → ((i : ℕ) → i < length ns → i < length images → get_or xs (get_or ns i 0) [] ≡ get_or images i []) → laid_over xs ns images ≡ xs
laid_over_done xs [] images done = refl
laid_over_done xs (n ∷ ns) [] done = refl
laid_over_done xs (n ∷ ns) (image ∷ images) done =
    let same : set xs n image ≡ xs = ap (λ (b : List ℕ). set xs n b) (sym (done 0 (omega arith) (omega arith))) ∙ set-get_or xs n [] in
    ap (λ (l : List (List ℕ)). laid_over l ns images) same ∙ laid_over_done xs ns images (λ i h l. done (suc i) (omega arith) (omega arith))

-- where the blocks are the same but in places that get an image
pub laid_over_agree : (ns : List ℕ) (images xs ys : List (List ℕ)) → length ns ≤ length images → length xs ≡ length ys
    → ((k : ℕ) → ((i : ℕ) → i < length ns → k ≢ get_or ns i 0) → get_or xs k [] ≡ get_or ys k [])
    → laid_over xs ns images ≡ laid_over ys ns images
laid_over_agree [] images xs ys enough size same = ext_get_or [] xs ys size (λ k h. same k (λ i l. absurd (omega arith)))
laid_over_agree (n ∷ ns) [] xs ys enough size same = absurd (omega arith)
laid_over_agree (n ∷ ns) (image ∷ images) xs ys enough size same =
    laid_over_agree ns images (set xs n image) (set ys n image) (omega arith) (length-set xs n image ∙ size
    ∙ sym (length-set ys n image)) each
  where
    each : (k : ℕ) → ((i : ℕ) → i < length ns → k ≢ get_or ns i 0) → get_or (set xs n image) k [] ≡ get_or (set ys n image) k []
    each k other = elim (cases_lt k (length xs)) [
      | inl within ↦ elim (cases_eq k n) [
        | inl is ↦
            ap (λ (j : ℕ). get_or (set xs j image) k []) (sym is)
            ∙ get_or-set_same xs k image [] within ∙ sym (get_or-set_same ys k image [] (omega (arith, size)))
            ∙ ap (λ (j : ℕ). get_or (set ys j image) k []) is
        | inr apart ↦
            get_or-set_other xs n k image [] apart ∙ same k (apart_from apart) ∙ sym (get_or-set_other ys n k image [] apart)
      ]
      | inr past ↦
          get_or_past (set xs n image) k [] (omega (arith, length-set xs n image))
          ∙ sym (get_or_past (set ys n image) k [] (omega (arith, size, length-set ys n image)))
    ]
      where
        apart_from : k ≢ n → (i : ℕ) → i < length (n ∷ ns) → k ≢ get_or (n ∷ ns) i 0
        apart_from apart zero h = apart
        apart_from apart (suc i) h = other i (omega arith)
