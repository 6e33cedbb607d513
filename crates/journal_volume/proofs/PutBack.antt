-- Blocks with other octets in some of their parts.
use Rattle.std.proofs.Common.{◌≡◌, ◌≢◌, inl, inr, ◌<◌, ◌≤◌, ℕ, zero, suc, ◌/◌, List, [], ◌∷◌, ◌++◌, length, get_or, refl, sym, ◌∙◌}
use Rattle.std.proofs.Common.{ap, arith}
use Rattle.std.specs.List.{All, Contains}
use Rattle.std.proofs.lemmas.Bool.{cases_eq}
use Rattle.std.proofs.lemmas.List.{get_or_default}
use Rattle.std.proofs.lemmas.List.Elements.{All-head, All-tail}
use Rattle.journal_volume.specs.Parts.{part_of, put_back, with_part}
use Rattle.journal_volume.proofs.WithPart.{ext_parts, length-with_part, part_with, part_with_other, with_part_same, with_part_whole}

-- octets for each of these parts of the blocks
pub record Fit (xs : List (List ℕ)) (ps : List ℕ) (parts : List (List ℕ)) : Type 0 where
  pub whole : All (λ b. length b ≡ 4096) xs
  pub there : All (λ p. p / 16 < length xs) ps
  pub sizes : All (λ octets. length octets ≡ 256) parts

-- a part that is none of these
abbrev pub IsOther : List ℕ → ℕ → Type 0
IsOther ps q = (i : ℕ) → i < length ps → q ≢ get_or ps i 0

pub not_at : (ps : List ℕ) (q : ℕ) → ¬ (Contains ps q) → IsOther ps q
not_at ps q other i low same = other (i, low, get_or_default ps i q 0 low ∙ sym same)

later : (p : ℕ) (ps : List ℕ) (q : ℕ) → IsOther (p ∷ ps) q → IsOther ps q
later p ps q other i low = other (suc i) (omega arith)

module _ (xs : List (List ℕ)) (p : ℕ) (ps : List ℕ) (octets : List ℕ) (parts : List (List ℕ)) (fit : Fit xs (p ∷ ps) (octets ∷ parts)) where
  first_there : p / 16 < length xs
  first_there = All-head (λ p. p / 16 < length xs) p ps fit.there

  first_size : length octets ≡ 256
  first_size = All-head (λ o. length o ≡ 256) octets parts fit.sizes

  rest_fits : Fit (with_part xs p octets) ps parts
  rest_fits = record {
    whole = with_part_whole xs p octets fit.whole first_there first_size;
    there = λ k d low. omega (
      arith,
      length-with_part xs p octets fit.whole first_there first_size,
      All-tail (λ p. p / 16 < length xs) p ps fit.there k d low,
    );
    sizes = All-tail (λ o. length o ≡ 256) octets parts fit.sizes;
  }

pub length-put_back : (xs : List (List ℕ)) (ps : List ℕ) (parts : List (List ℕ)) → Fit xs ps parts
    → length (put_back xs ps parts) ≡ length xs
length-put_back xs [] parts fit = refl
length-put_back xs (p ∷ ps) [] fit = refl
length-put_back xs (p ∷ ps) (octets ∷ parts) fit =
    length-put_back (with_part xs p octets) ps parts (rest_fits xs p ps octets parts fit)
    ∙ length-with_part xs p octets fit.whole (first_there xs p ps octets parts fit) (first_size xs p ps octets parts fit)

pub put_back_whole : (xs : List (List ℕ)) (ps : List ℕ) (parts : List (List ℕ)) → Fit xs ps parts
    → All (λ b. length b ≡ 4096) (put_back xs ps parts)
put_back_whole xs [] parts fit = fit.whole
put_back_whole xs (p ∷ ps) [] fit = fit.whole
put_back_whole xs (p ∷ ps) (octets ∷ parts) fit =
    put_back_whole (with_part xs p octets) ps parts (rest_fits xs p ps octets parts fit)

-- a part that gets no octets
pub put_back_other : (xs : List (List ℕ)) (ps : List ℕ) (parts : List (List ℕ)) → Fit xs ps parts → (q : ℕ) → IsOther ps q
    → part_of (put_back xs ps parts) q ≡ part_of xs q
put_back_other xs [] parts fit q other = refl
put_back_other xs (p ∷ ps) [] fit q other = refl
put_back_other xs (p ∷ ps) (octets ∷ parts) fit q other =
    put_back_other (with_part xs p octets) ps parts (rest_fits xs p ps octets parts fit) q (later p ps q other)
    ∙ part_with_other xs p octets fit.whole (first_there xs p ps octets parts fit) (first_size xs p ps octets parts fit)
    q (other 0 (omega arith))

-- one part more
pub put_back_push : (xs : List (List ℕ)) (ps : List ℕ) (parts : List (List ℕ)) (p : ℕ) (octets : List ℕ) → length ps ≡ length parts
    → put_back xs (ps ++ p ∷ []) (parts ++ octets ∷ []) ≡ with_part (put_back xs ps parts) p octets
put_back_push xs [] [] p octets same = refl
put_back_push xs [] (o ∷ parts) p octets same = absurd (omega arith)
put_back_push xs (q ∷ ps) [] p octets same = absurd (omega arith)
put_back_push xs (q ∷ ps) (o ∷ parts) p octets same = put_back_push (with_part xs q o) ps parts p octets (omega arith)

-- where the parts are those already
pub put_back_done : (xs : List (List ℕ)) (ps : List ℕ) (parts : List (List ℕ)) → Fit xs ps parts
    → ((i : ℕ) → i < length ps → i < length parts → part_of xs (get_or ps i 0) ≡ get_or parts i []) → put_back xs ps parts ≡ xs
put_back_done xs [] parts fit done = refl
put_back_done xs (p ∷ ps) [] fit done = refl
put_back_done xs (p ∷ ps) (octets ∷ parts) fit done =
    let same : with_part xs p octets ≡ xs =
    with_part_same xs p octets fit.whole (first_there xs p ps octets parts fit) (done 0 (omega arith) (omega arith)) in
    ap (λ (l : List (List ℕ)). put_back l ps parts) same
    ∙ put_back_done xs ps parts (record {
      whole = fit.whole;
      there = All-tail (λ p. p / 16 < length xs) p ps fit.there;
      sizes = All-tail (λ o. length o ≡ 256) octets parts fit.sizes;
    }) (λ i low inside. done (suc i) (omega arith) (omega arith))

-- blocks that differ in these parts alone
pub put_back_agree : (ps : List ℕ) (parts xs ys : List (List ℕ)) → length ps ≤ length parts → Fit xs ps parts → Fit ys ps parts
    → length xs ≡ length ys → ((q : ℕ) → q / 16 < length xs → IsOther ps q → part_of xs q ≡ part_of ys q)
    → put_back xs ps parts ≡ put_back ys ps parts
put_back_agree [] parts xs ys enough one other size same =
    ext_parts xs ys one.whole other.whole size (λ q low. same q low (λ i l. absurd (omega arith)))
put_back_agree (p ∷ ps) [] xs ys enough one other size same = absurd (omega arith)
put_back_agree (p ∷ ps) (octets ∷ parts) xs ys enough one other size same =
    put_back_agree ps parts (with_part xs p octets) (with_part ys p octets) (omega arith) (rest_fits xs p ps octets parts one)
    (rest_fits ys p ps octets parts other) (length_x ∙ size ∙ sym length_y) each
  where
    x_there : p / 16 < length xs
    x_there = first_there xs p ps octets parts one

    y_there : p / 16 < length ys
    y_there = first_there ys p ps octets parts other

    here : length octets ≡ 256
    here = first_size xs p ps octets parts one

    length_x : length (with_part xs p octets) ≡ length xs
    length_x = length-with_part xs p octets one.whole x_there here

    length_y : length (with_part ys p octets) ≡ length ys
    length_y = length-with_part ys p octets other.whole y_there here

    each : (q : ℕ) → q / 16 < length (with_part xs p octets) → IsOther ps q
        → part_of (with_part xs p octets) q ≡ part_of (with_part ys p octets) q
    each q low apart = elim (cases_eq q p) [
      | inl is ↦
          ap (λ (j : ℕ). part_of (with_part xs p octets) j) is
          ∙ part_with xs p octets one.whole x_there here
          ∙ sym (part_with ys p octets other.whole y_there here)
          ∙ ap (λ (j : ℕ). part_of (with_part ys p octets) j) (sym is)
      | inr differs ↦
          part_with_other xs p octets one.whole x_there here q differs
          ∙ same q (omega (arith, length_x)) (apart_from differs)
          ∙ sym (part_with_other ys p octets other.whole y_there here q differs)
    ]
      where
        apart_from : q ≢ p → IsOther (p ∷ ps) q
        apart_from differs zero h = differs
        apart_from differs (suc i) h = apart i (omega arith)
