-- Blocks in octets that are laid end to end.
use Rattle.std.proofs.Common.{◌≡◌, ◌≢◌, ◌⊎◌, inl, inr, ◌<◌, ◌≤◌, ℕ, zero, suc, ◌+◌, ◌*◌, List, [], ◌∷◌, ◌++◌, length, get_or, take, drop}
use Rattle.std.proofs.Common.{map, set, refl, sym, ◌∙◌, ap, arith, append_assoc, length-append, length-drop, length-set}
use Rattle.std.proofs.Math.Seq.{drop-append-add}
use Rattle.std.specs.List.{flat_map, All}
use Rattle.std.proofs.lemmas.List.{ext_get_or, drop-append-le, take-append-le, take_all, drop_at, length_push, get_or_append_left}
use Rattle.std.proofs.lemmas.List.{get_or_push, get_or-set_same, get_or-set_other, length-take-le}
use Rattle.std.proofs.lemmas.List.FromFn.{length-map-range_with_len}
use Rattle.std.proofs.lemmas.List.Elements.{All-head, All-tail, All-from_get_or}
use Rattle.std.proofs.lemmas.Bool.{cases_order, cases_eq, cases_lt}
use Rattle.disk.specs.Image.{part, overwritten}
use Rattle.disk.proofs.Images.{length-overwritten, length-part, part-overwritten, part-overwritten_apart}
use Rattle.model.specs.Volume.{block, blocks_from}
use Rattle.model.proofs.Blocks.{get_or-blocks_from}

pub length-block : (k : ℕ) (octets : List ℕ) → 4096 * k + 4096 ≤ length octets → length (block k octets) ≡ 4096
length-block k octets fits = length-part (4096 * k) 4096 octets fits

pub length-blocks_from : (n : ℕ) (octets : List ℕ) → length (blocks_from 0 n octets) ≡ n
length-blocks_from n octets = length-map-range_with_len (λ k. block k octets) 0 n

pub blocks_whole : (n : ℕ) (octets : List ℕ) → length octets ≡ 4096 * n → All (λ b. length b ≡ 4096) (blocks_from 0 n octets)
blocks_whole n octets size =
    All-from_get_or (λ b. length b ≡ 4096) (blocks_from 0 n octets) [] (λ k within.
    let inside : k < n = omega (arith, length-blocks_from n octets) in
    ap length (get_or-blocks_from n k octets inside) ∙ length-block k octets (omega arith))

apart : (j k : ℕ) → k ≢ j → (4096 * k + 4096 ≤ 4096 * j) ⊎ (4096 * j + 4096 ≤ 4096 * k)
apart j k other = elim (cases_order k j) [
  | inl same ↦ absurd (other same)
  | inr ordered ↦ elim ordered [ inl below ↦ inl (omega arith) | inr above ↦ inr (omega arith) ]
]

module _ (j : ℕ) (octets image : List ℕ) (whole : length octets ≡ 4096) (fits : 4096 * j + 4096 ≤ length image) where
  enough : 4096 * j + length octets ≤ length image
  enough = omega arith

  pub block-put : block j (overwritten (4096 * j) octets image) ≡ octets
  block-put = ap (λ (n : ℕ). part (4096 * j) n (overwritten (4096 * j) octets image)) (sym whole)
      ∙ part-overwritten (4096 * j) octets image enough

  pub block-put_other : (k : ℕ) → k ≢ j → block k (overwritten (4096 * j) octets image) ≡ block k image
  block-put_other k other =
      part-overwritten_apart (4096 * j) octets image enough (4096 * k) 4096
      (elim (apart j k other) [ inl a ↦ inl a | inr a ↦ inr (omega arith) ])

  pub length-put : length (overwritten (4096 * j) octets image) ≡ length image
  length-put = length-overwritten (4096 * j) octets image enough

-- a write of a whole block
pub blocks_from-put : (n j : ℕ) (octets image : List ℕ) → length octets ≡ 4096 → length image ≡ 4096 * n → j < n
    → blocks_from 0 n (overwritten (4096 * j) octets image) ≡ set (blocks_from 0 n image) j octets
blocks_from-put n j octets image whole size within =
    ext_get_or [] (blocks_from 0 n (overwritten (4096 * j) octets image)) (set (blocks_from 0 n image) j octets) sizes each
  where
    fits : 4096 * j + 4096 ≤ length image
    fits = omega arith

    sizes : length (blocks_from 0 n (overwritten (4096 * j) octets image)) ≡ length (set (blocks_from 0 n image) j octets)
    sizes = length-blocks_from n (overwritten (4096 * j) octets image)
        ∙ sym (length-set (blocks_from 0 n image) j octets ∙ length-blocks_from n image)

    each : (k : ℕ) → k < length (blocks_from 0 n (overwritten (4096 * j) octets image))
        → get_or (blocks_from 0 n (overwritten (4096 * j) octets image)) k [] ≡ get_or (set (blocks_from 0 n image) j octets) k []
    each k low =
        let inside : k < n = omega (arith, length-blocks_from n (overwritten (4096 * j) octets image)) in
        let there : j < length (blocks_from 0 n image) = omega (arith, length-blocks_from n image) in
        elim (cases_eq k j) [
          | inl same ↦
              get_or-blocks_from n k (overwritten (4096 * j) octets image) inside
              ∙ ap (λ (i : ℕ). block i (overwritten (4096 * j) octets image)) same
              ∙ block-put j octets image whole fits
              ∙ sym (ap (λ (i : ℕ). get_or (set (blocks_from 0 n image) j octets) i []) same
              ∙ get_or-set_same (blocks_from 0 n image) j octets [] there)
          | inr other ↦
              get_or-blocks_from n k (overwritten (4096 * j) octets image) inside
              ∙ block-put_other j octets image whole fits k other
              ∙ sym (get_or-set_other (blocks_from 0 n image) j k octets [] other ∙ get_or-blocks_from n k image inside)
        ]

-- one block more
pub blocks_from-push : (n : ℕ) (octets more : List ℕ) → length octets ≡ 4096 * n → length more ≡ 4096
    → blocks_from 0 (n + 1) (octets ++ more) ≡ blocks_from 0 n octets ++ more ∷ []
blocks_from-push n octets more size whole =
    ext_get_or [] (blocks_from 0 (n + 1) (octets ++ more)) (blocks_from 0 n octets ++ more ∷ []) sizes each
  where
    sizes : length (blocks_from 0 (n + 1) (octets ++ more)) ≡ length (blocks_from 0 n octets ++ more ∷ [])
    sizes = length-blocks_from (n + 1) (octets ++ more)
        ∙ sym (length_push (blocks_from 0 n octets) more ∙ ap (λ (m : ℕ). m + 1) (length-blocks_from n octets))

    front : (k : ℕ) → k < n → block k (octets ++ more) ≡ block k octets
    front k low =
        ap (λ (l : List ℕ). take 4096 l) (drop-append-le (4096 * k) octets more (omega arith))
        ∙ take-append-le 4096 (drop (4096 * k) octets) more (omega (arith, length-drop (4096 * k) octets))

    last : block n (octets ++ more) ≡ more
    last = ap (λ (l : List ℕ). take 4096 l) (drop_at octets more (4096 * n) size) ∙ take_all 4096 more (omega arith)

    each : (k : ℕ) → k < length (blocks_from 0 (n + 1) (octets ++ more))
        → get_or (blocks_from 0 (n + 1) (octets ++ more)) k [] ≡ get_or (blocks_from 0 n octets ++ more ∷ []) k []
    each k low =
        let inside : k < n + 1 = omega (arith, length-blocks_from (n + 1) (octets ++ more)) in
        get_or-blocks_from (n + 1) k (octets ++ more) inside
        ∙ elim (cases_lt k n) [
          | inl below ↦ front k below ∙ sym
              (get_or_append_left (blocks_from 0 n octets) (more ∷ []) [] k (omega (arith, length-blocks_from n octets))
              ∙ get_or-blocks_from n k octets below)
          | inr past ↦
              let same : k ≡ n = omega arith in
              ap (λ (i : ℕ). block i (octets ++ more)) same ∙ last
              ∙ sym (get_or_push (blocks_from 0 n octets) more [] k (length-blocks_from n octets ∙ sym same))
        ]

-- what a write of a block leaves of the front
pub take-put : (j : ℕ) (octets image : List ℕ) → length octets ≡ 4096 → 4096 * j + 4096 ≤ length image
    → take (4096 * (j + 1)) (overwritten (4096 * j) octets image) ≡ take (4096 * j) image ++ octets
take-put j octets image whole fits =
    let size : length (take (4096 * j) image) ≡ 4096 * j = length-take-le (4096 * j) image (omega arith) in
    let rest = drop (4096 * j + length octets) image in
    ap (λ (l : List ℕ). take (4096 * (j + 1)) l) (sym_assoc (take (4096 * j) image) octets rest)
    ∙ take_front (take (4096 * j) image ++ octets) rest (4096 * (j + 1)) (omega (arith, length-append (take (4096 * j) image) octets))
  where
    sym_assoc : (a b c : List ℕ) → a ++ (b ++ c) ≡ (a ++ b) ++ c
    sym_assoc a b c = sym (append_assoc a b c)

    take_front : (a b : List ℕ) (n : ℕ) → length a ≡ n → take n (a ++ b) ≡ a
    take_front a b n e = take-append-le n a b (omega arith) ∙ take_all n a (omega arith)

-- blocks laid end to end
pub blocks_from-flat_map : (f : ℕ → List ℕ) (ns : List ℕ) → All (λ n. length (f n) ≡ 4096) ns
    → (length (flat_map f ns) ≡ 4096 * length ns) × (blocks_from 0 (length ns) (flat_map f ns) ≡ map f ns)
blocks_from-flat_map f ns whole = (size ns whole, ext_get_or [] (blocks_from 0 (length ns) (flat_map f ns)) (map f ns) sizes each)
  where
    size : (ns : List ℕ) → All (λ n. length (f n) ≡ 4096) ns → length (flat_map f ns) ≡ 4096 * length ns
    size [] whole = refl
    size (n ∷ ns) whole = omega (
      arith,
      length-append (f n) (flat_map f ns),
      All-head (λ n. length (f n) ≡ 4096) n ns whole,
      size ns (All-tail (λ n. length (f n) ≡ 4096) n ns whole),
    )

    at : (ns : List ℕ) (k : ℕ) → All (λ n. length (f n) ≡ 4096) ns → k < length ns → block k (flat_map f ns) ≡ get_or (map f ns) k []
    at [] k whole low = absurd (omega arith)
    at (n ∷ ns) zero whole low =
        let is = All-head (λ n. length (f n) ≡ 4096) n ns whole in
        take-append-le 4096 (f n) (flat_map f ns) (omega arith) ∙ take_all 4096 (f n) (omega arith)
    at (n ∷ ns) (suc k) whole low =
        let is = All-head (λ n. length (f n) ≡ 4096) n ns whole in
        let place : 4096 * suc k ≡ length (f n) + 4096 * k = omega arith in
        ap (λ (m : ℕ). take 4096 (drop m (f n ++ flat_map f ns))) place
        ∙ ap (λ (l : List ℕ). take 4096 l) (drop_past (f n) (flat_map f ns) (4096 * k))
        ∙ at ns k (All-tail (λ n. length (f n) ≡ 4096) n ns whole) (omega arith)
      where
        drop_past : (a b : List ℕ) (m : ℕ) → drop (length a + m) (a ++ b) ≡ drop m b
        drop_past a b m = drop-append-add a b m

    sizes : length (blocks_from 0 (length ns) (flat_map f ns)) ≡ length (map f ns)
    sizes = length-blocks_from (length ns) (flat_map f ns) ∙ sym (length_map ns)
      where
        length_map : (ns : List ℕ) → length (map f ns) ≡ length ns
        length_map [] = refl
        length_map (n ∷ ns) = ap suc (length_map ns)

    each : (k : ℕ) → k < length (blocks_from 0 (length ns) (flat_map f ns))
        → get_or (blocks_from 0 (length ns) (flat_map f ns)) k [] ≡ get_or (map f ns) k []
    each k low =
        let inside : k < length ns = omega (arith, length-blocks_from (length ns) (flat_map f ns)) in
        get_or-blocks_from (length ns) k (flat_map f ns) inside ∙ at ns k whole inside
