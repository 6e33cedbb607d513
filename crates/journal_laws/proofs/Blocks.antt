-- What writes leave of the blocks of an image.
use Rattle.std.proofs.Common.{◌≡◌, ◌≢◌, ◌⊎◌, inl, inr, ◌<◌, ◌≤◌, ℕ, ◌+◌, ◌-◌, ◌*◌, List, [], ◌∷◌, ◌++◌, length, get_or, take, drop, refl}
use Rattle.std.proofs.Common.{sym, ◌∙◌, ap, arith, length-drop}
use Rattle.std.proofs.lemmas.List.{ext_get_or, drop-append-le, take-append-le}
use Rattle.std.proofs.lemmas.List.FromFn.{length-map-range_with_len, get_or-map-range_with_len}
use Rattle.std.proofs.lemmas.Bool.{cases_order}
use Rattle.disk.specs.Image.{part, overwritten, Torn}
use Rattle.disk.proofs.Images.{length-overwritten, overwritten_inside, part-overwritten, part-overwritten_apart, part-torn_apart}
use Rattle.disk.proofs.Images.{get_or-part}
use Rattle.journal_laws.specs.Images.{SameBut}
use Rattle.model.specs.Volume.{block, blocks_from}

apart : (j k n : ℕ) → n ≤ 4096 → k ≢ j → (4096 * k + 4096 ≤ 4096 * j) ⊎ (4096 * j + n ≤ 4096 * k)
apart j k n few other = elim (cases_order k j) [
  | inl same ↦ absurd (other same)
  | inr ordered ↦ elim ordered [ inl below ↦ inl (omega arith) | inr above ↦ inr (omega arith) ]
]

pub torn_same : (j n : ℕ) (old new : List ℕ) → n ≤ 4096 → Torn (4096 * j) n old new → SameBut (λ k. k ≡ j) old new
torn_same j n old new few torn = record {
  size = torn.size;
  same = λ k other. part-torn_apart (4096 * j) n old new torn (4096 * k) 4096 (apart j k n few other);
}

pub overwritten_same : (j : ℕ) (octets image : List ℕ) → length octets ≤ 4096 → 4096 * j + length octets ≤ length image
    → SameBut (λ k. k ≡ j) image (overwritten (4096 * j) octets image)
overwritten_same j octets image few fits = record {
  size = length-overwritten (4096 * j) octets image fits;
  same = λ k other. part-overwritten_apart (4096 * j) octets image fits (4096 * k) 4096 (apart j k (length octets) few other);
}

-- a whole block
pub block-overwritten : (j : ℕ) (octets image : List ℕ) → length octets ≡ 4096 → 4096 * j + length octets ≤ length image
    → block j (overwritten (4096 * j) octets image) ≡ octets
block-overwritten j octets image whole fits =
    ap (λ (n : ℕ). part (4096 * j) n (overwritten (4096 * j) octets image)) (sym whole) ∙ part-overwritten (4096 * j) octets image fits

-- its first octet alone
pub first-overwritten : (j octet : ℕ) (image : List ℕ) → 4096 * j + 1 ≤ length image
    → get_or (block j (overwritten (4096 * j) (octet ∷ []) image)) 0 0 ≡ octet
first-overwritten j octet image fits =
    let place : 4096 * j + 0 ≡ 4096 * j = omega arith in
    let none : 4096 * j - 4096 * j ≡ 0 = omega arith in
    get_or-part (4096 * j) 4096 (overwritten (4096 * j) (octet ∷ []) image) 0 0 (omega arith)
    ∙ ap (λ (n : ℕ). get_or (overwritten (4096 * j) (octet ∷ []) image) n 0) place
    ∙ overwritten_inside (4096 * j) (octet ∷ []) image fits (4096 * j) 0 (omega arith) (omega arith)
    ∙ ap (λ (n : ℕ). get_or (octet ∷ []) n 0) none

pub same_but_more : (P Q : ℕ → Type 0) (old new : List ℕ) → ((k : ℕ) → P k → Q k) → SameBut P old new → SameBut Q old new
same_but_more P Q old new more same = record { size = same.size; same = λ k other. same.same k (λ p. other (more k p)) }

pub same_but_then : (P : ℕ → Type 0) (a b c : List ℕ) → SameBut P a b → SameBut P b c → SameBut P a c
same_but_then P a b c first second = record { size = second.size ∙ first.size; same = λ k other. second.same k other ∙ first.same k other }

pub same_but_back : (P : ℕ → Type 0) (a b : List ℕ) → SameBut P a b → SameBut P b a
same_but_back P a b same = record { size = sym same.size; same = λ k other. sym (same.same k other) }

pub same_but_equal : (P : ℕ → Type 0) (a b : List ℕ) → b ≡ a → SameBut P a b
same_but_equal P a b is = record { size = ap length is; same = λ k other. ap (block k) is }

-- blocks of two images, place by place
pub blocks_from_same : (a b n : ℕ) (xs ys : List ℕ) → ((k : ℕ) → k < n → block (a + k) xs ≡ block (b + k) ys)
    → blocks_from a n xs ≡ blocks_from b n ys
blocks_from_same a b n xs ys same =
    ext_get_or [] (blocks_from a n xs) (blocks_from b n ys) (length-map-range_with_len (λ k. block k xs) a n
    ∙ sym (length-map-range_with_len (λ k. block k ys) b n)) each
  where
    each : (i : ℕ) → i < length (blocks_from a n xs) → get_or (blocks_from a n xs) i [] ≡ get_or (blocks_from b n ys) i []
    each i within =
        let inside : i < n = omega (arith, length-map-range_with_len (λ k. block k xs) a n) in
        get_or-map-range_with_len (λ k. block k xs) a n i (a + i) [] inside refl ∙ same i inside
        ∙ sym (get_or-map-range_with_len (λ k. block k ys) b n i (b + i) [] inside refl)

pub length-blocks_from : (a n : ℕ) (xs : List ℕ) → length (blocks_from a n xs) ≡ n
length-blocks_from a n xs = length-map-range_with_len (λ k. block k xs) a n

pub get_or-blocks_from : (a n i : ℕ) (xs : List ℕ) → i < n → get_or (blocks_from a n xs) i [] ≡ block (a + i) xs
get_or-blocks_from a n i xs within = get_or-map-range_with_len (λ k. block k xs) a n i (a + i) [] within refl

-- the blocks of a front
pub blocks_from_front : (n : ℕ) (xs rest : List ℕ) → length xs ≡ 4096 * n → blocks_from 0 n (xs ++ rest) ≡ blocks_from 0 n xs
blocks_from_front n xs rest size = blocks_from_same 0 0 n (xs ++ rest) xs each
  where
    each : (k : ℕ) → k < n → block (0 + k) (xs ++ rest) ≡ block (0 + k) xs
    each k within =
        ap (λ (l : List ℕ). take 4096 l) (drop-append-le (4096 * (0 + k)) xs rest (omega arith))
        ∙ take-append-le 4096 (drop (4096 * (0 + k)) xs) rest (omega (arith, length-drop (4096 * (0 + k)) xs))
