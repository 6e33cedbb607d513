-- Blocks with other octets in a part.
use Rattle.std.proofs.Common.{◌≡◌, ◌≢◌, ◌⊎◌, inl, inr, ◌<◌, ◌≤◌, ℕ, ◌+◌, ◌*◌, ◌/◌, ◌%◌, List, [], length, get_or, sym, ◌∙◌, ap}
use Rattle.std.proofs.Common.{arith, length-set}
use Rattle.std.specs.List.{All}
use Rattle.std.proofs.lemmas.Bool.{cases_eq, cases_order}
use Rattle.std.proofs.lemmas.List.{ext_get_or, get_or-set_same, get_or-set_other}
use Rattle.std.proofs.lemmas.List.Elements.{All-set}
use Rattle.disk.specs.Image.{part, overwritten}
use Rattle.disk.proofs.Images.{get_or-part, length-overwritten, length-part, part-overwritten, part-overwritten_apart}
use Rattle.journal_volume.specs.Parts.{part_of, with_part}

-- blocks whose parts are the same are the same
pub ext_parts : (xs ys : List (List ℕ)) → All (λ b. length b ≡ 4096) xs → All (λ b. length b ≡ 4096) ys → length xs ≡ length ys
    → ((p : ℕ) → p / 16 < length xs → part_of xs p ≡ part_of ys p) → xs ≡ ys
ext_parts xs ys whole others size same = ext_get_or [] xs ys size (λ k low.
    let one = whole k [] low in
    let other = others k [] (omega arith) in
    ext_get_or 0 (get_or xs k []) (get_or ys k []) (one ∙ sym other) (λ i inside. at k i low (omega (arith, one))))
  where
    at : (k i : ℕ) → k < length xs → i < 4096 → get_or (get_or xs k []) i 0 ≡ get_or (get_or ys k []) i 0
    at k i low inside =
        let p = 16 * k + i / 256 in
        let block : p / 16 ≡ k = omega arith in
        let place : 256 * (p % 16) + i % 256 ≡ i = omega arith in
        let is : (zs : List (List ℕ)) → get_or (part_of zs p) (i % 256) 0 ≡ get_or (get_or zs k []) i 0 =
        λ zs. get_or-part (256 * (p % 16)) 256 (get_or zs (p / 16) []) (i % 256) 0 (omega arith)
        ∙ ap (λ (j : ℕ). get_or (get_or zs (p / 16) []) j 0) place ∙ ap (λ (j : ℕ). get_or (get_or zs j []) i 0) block in
        sym (is xs) ∙ ap (λ (l : List ℕ). get_or l (i % 256) 0) (same p (omega arith)) ∙ is ys

pub length-part_of : (xs : List (List ℕ)) (p : ℕ) → All (λ b. length b ≡ 4096) xs → p / 16 < length xs → length (part_of xs p) ≡ 256
length-part_of xs p whole there =
    let size = whole (p / 16) [] there in
    length-part (256 * (p % 16)) 256 (get_or xs (p / 16) []) (omega arith)

module _ (xs : List (List ℕ)) (p : ℕ) (octets : List ℕ) (whole : All (λ b. length b ≡ 4096) xs) (there : p / 16 < length xs)
    (size : length octets ≡ 256) where
  fits : 256 * (p % 16) + length octets ≤ length (get_or xs (p / 16) [])
  fits = let block = whole (p / 16) [] there in omega arith

  pub length-with_part : length (with_part xs p octets) ≡ length xs
  length-with_part = length-set xs (p / 16) (overwritten (256 * (p % 16)) octets (get_or xs (p / 16) []))

  pub with_part_whole : All (λ b. length b ≡ 4096) (with_part xs p octets)
  with_part_whole =
      All-set (λ b. length b ≡ 4096) xs (p / 16) (overwritten (256 * (p % 16)) octets (get_or xs (p / 16) []))
      (length-overwritten (256 * (p % 16)) octets (get_or xs (p / 16) []) fits ∙ whole (p / 16) [] there) whole

  here : get_or (with_part xs p octets) (p / 16) [] ≡ overwritten (256 * (p % 16)) octets (get_or xs (p / 16) [])
  here = get_or-set_same xs (p / 16) (overwritten (256 * (p % 16)) octets (get_or xs (p / 16) [])) [] there

  -- that part
  pub part_with : part_of (with_part xs p octets) p ≡ octets
  part_with =
      ap (λ (b : List ℕ). part (256 * (p % 16)) 256 b) here
      ∙ ap (λ (n : ℕ). part (256 * (p % 16)) n (overwritten (256 * (p % 16)) octets (get_or xs (p / 16) []))) (sym size)
      ∙ part-overwritten (256 * (p % 16)) octets (get_or xs (p / 16) []) fits

  -- another
  pub part_with_other : (q : ℕ) → q ≢ p → part_of (with_part xs p octets) q ≡ part_of xs q
  part_with_other q other = elim (cases_eq (q / 16) (p / 16)) [
    | inl same ↦
        let apart : q % 16 ≢ p % 16 = λ e. other (omega arith) in
        ap (λ (j : ℕ). part (256 * (q % 16)) 256 (get_or (with_part xs p octets) j [])) same
        ∙ ap (λ (b : List ℕ). part (256 * (q % 16)) 256 b) here
        ∙ part-overwritten_apart (256 * (p % 16)) octets (get_or xs (p / 16) []) fits (256 * (q % 16)) 256 (sides apart)
        ∙ ap (λ (j : ℕ). part (256 * (q % 16)) 256 (get_or xs j [])) (sym same)
    | inr apart ↦
        ap (λ (b : List ℕ). part (256 * (q % 16)) 256 b)
        (get_or-set_other xs (p / 16) (q / 16) (overwritten (256 * (p % 16)) octets (get_or xs (p / 16) [])) [] apart)
  ]
    where
      sides : q % 16 ≢ p % 16
          → (256 * (q % 16) + 256 ≤ 256 * (p % 16)) ⊎ (256 * (p % 16) + length octets ≤ 256 * (q % 16))
      sides apart = elim (cases_order (q % 16) (p % 16)) [
        | inl same ↦ absurd (apart same)
        | inr ordered ↦ elim ordered [ inl below ↦ inl (omega arith) | inr above ↦ inr (omega arith) ]
      ]

-- the octets that it has
pub with_part_same : (xs : List (List ℕ)) (p : ℕ) (octets : List ℕ) → All (λ b. length b ≡ 4096) xs → p / 16 < length xs
    → part_of xs p ≡ octets → with_part xs p octets ≡ xs
with_part_same xs p octets whole there is =
    let size : length octets ≡ 256 = sym (ap length is) ∙ length-part_of xs p whole there in
    ext_parts (with_part xs p octets) xs (with_part_whole xs p octets whole there size) whole
    (length-with_part xs p octets whole there size)
    (λ q low. elim (cases_eq q p) [
      | inl same ↦ ap (λ (j : ℕ). part_of (with_part xs p octets) j) same ∙ part_with xs p octets whole there size
          ∙ sym is ∙ ap (λ (j : ℕ). part_of xs j) (sym same)
      | inr other ↦ part_with_other xs p octets whole there size q other
    ])
