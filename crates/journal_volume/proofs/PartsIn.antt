-- Parts in octets that are laid end to end.
use Rattle.std.proofs.Common.{◌≡◌, ◌≢◌, inl, inr, ◌<◌, ◌≤◌, ℕ, ◌+◌, ◌*◌, List, [], ◌∷◌, ◌++◌, length, get_or, take, drop, sym, ◌∙◌, ap}
use Rattle.std.proofs.Common.{arith}
use Rattle.std.proofs.Common.{length-drop}
use borrow.Rule.Slice.PartMut.{put_mid}
use Rattle.std.specs.List.{All}
use Rattle.std.proofs.lemmas.Bool.{cases_lt, cases_order}
use Rattle.std.proofs.lemmas.List.{drop-drop, ext_get_or, drop-append-le, take-append-le, take_all, drop_at, length_push}
use Rattle.std.proofs.lemmas.List.{get_or_append_left, get_or_push}
use Rattle.std.proofs.lemmas.List.Elements.{All-from_get_or}
use Rattle.std.proofs.lemmas.List.FromFn.{get_or-map-range_with_len, length-map-range_with_len}
use Rattle.disk.specs.Image.{part, overwritten}
use Rattle.disk.proofs.Images.{length-overwritten, length-part, part-overwritten, part-overwritten_apart}
use Rattle.journal_volume.specs.Parts.{parts_in}

pub length-parts_in : (n : ℕ) (octets : List ℕ) → length (parts_in n octets) ≡ n
length-parts_in n octets = length-map-range_with_len (λ i. part (256 * i) 256 octets) 0 n

pub get_or-parts_in : (n i : ℕ) (octets : List ℕ) → i < n → get_or (parts_in n octets) i [] ≡ part (256 * i) 256 octets
get_or-parts_in n i octets within =
    get_or-map-range_with_len (λ i. part (256 * i) 256 octets) 0 n i i [] within (omega arith)

pub parts_sizes : (n : ℕ) (octets : List ℕ) → length octets ≡ 256 * n → All (λ o. length o ≡ 256) (parts_in n octets)
parts_sizes n octets size =
    All-from_get_or (λ o. length o ≡ 256) (parts_in n octets) [] (λ i within.
    let inside : i < n = omega (arith, length-parts_in n octets) in
    ap length (get_or-parts_in n i octets inside) ∙ length-part (256 * i) 256 octets (omega arith))

-- what a write of a slice's part leaves
pub put_mid_is : (at k : ℕ) (more octets : List ℕ) → length more ≡ k → put_mid at k octets more ≡ overwritten at more octets
put_mid_is at k more octets size =
    ap (λ (l : List ℕ). take at octets ++ (more ++ l))
    (drop-drop k at octets ∙ ap (λ (n : ℕ). drop n octets) (let same : at + k ≡ at + length more = omega arith in same))

-- other octets in a part
module _ (j : ℕ) (more octets : List ℕ) (whole : length more ≡ 256) (fits : 256 * j + 256 ≤ length octets) where
  enough : 256 * j + length more ≤ length octets
  enough = omega arith

  pub length-part_put : length (overwritten (256 * j) more octets) ≡ length octets
  length-part_put = length-overwritten (256 * j) more octets enough

  pub part_put : part (256 * j) 256 (overwritten (256 * j) more octets) ≡ more
  part_put = ap (λ (n : ℕ). part (256 * j) n (overwritten (256 * j) more octets)) (sym whole)
      ∙ part-overwritten (256 * j) more octets enough

  pub part_put_other : (i : ℕ) → i ≢ j → part (256 * i) 256 (overwritten (256 * j) more octets) ≡ part (256 * i) 256 octets
  part_put_other i other = part-overwritten_apart (256 * j) more octets enough (256 * i) 256 (elim (cases_order i j) [
    | inl same ↦ absurd (other same)
    | inr ordered ↦ elim ordered [ inl below ↦ inl (omega arith) | inr above ↦ inr (omega arith) ]
  ])

-- one part more
pub parts_in-push : (n : ℕ) (octets more : List ℕ) → length octets ≡ 256 * n → length more ≡ 256
    → parts_in (n + 1) (octets ++ more) ≡ parts_in n octets ++ more ∷ []
parts_in-push n octets more size whole =
    ext_get_or [] (parts_in (n + 1) (octets ++ more)) (parts_in n octets ++ more ∷ []) sizes each
  where
    sizes : length (parts_in (n + 1) (octets ++ more)) ≡ length (parts_in n octets ++ more ∷ [])
    sizes = length-parts_in (n + 1) (octets ++ more)
        ∙ sym (length_push (parts_in n octets) more ∙ ap (λ (m : ℕ). m + 1) (length-parts_in n octets))

    front : (k : ℕ) → k < n → part (256 * k) 256 (octets ++ more) ≡ part (256 * k) 256 octets
    front k low =
        ap (λ (l : List ℕ). take 256 l) (drop-append-le (256 * k) octets more (omega arith))
        ∙ take-append-le 256 (drop (256 * k) octets) more (omega (arith, length-drop (256 * k) octets))

    last : part (256 * n) 256 (octets ++ more) ≡ more
    last = ap (λ (l : List ℕ). take 256 l) (drop_at octets more (256 * n) size) ∙ take_all 256 more (omega arith)

    each : (k : ℕ) → k < length (parts_in (n + 1) (octets ++ more))
        → get_or (parts_in (n + 1) (octets ++ more)) k [] ≡ get_or (parts_in n octets ++ more ∷ []) k []
    each k low =
        let inside : k < n + 1 = omega (arith, length-parts_in (n + 1) (octets ++ more)) in
        get_or-parts_in (n + 1) k (octets ++ more) inside
        ∙ elim (cases_lt k n) [
          | inl below ↦ front k below ∙ sym
              (get_or_append_left (parts_in n octets) (more ∷ []) [] k (omega (arith, length-parts_in n octets))
              ∙ get_or-parts_in n k octets below)
          | inr past ↦
              let same : k ≡ n = omega arith in
              ap (λ (i : ℕ). part (256 * i) 256 (octets ++ more)) same ∙ last
              ∙ sym (get_or_push (parts_in n octets) more [] k (length-parts_in n octets ∙ sym same))
        ]
