-- A file whose last block takes more octets, or that gets one block more.
use Rattle.std.proofs.Common.{◌≡◌, ◌<◌, ◌≤◌, ℕ, zero, suc, ◌+◌, ◌*◌, ◌/◌, List, [], ◌∷◌, ◌++◌, length, get_or, take, drop, refl, sym, ◌∙◌}
use Rattle.std.proofs.Common.{ap, arith}
use Rattle.std.specs.List.{All, range_with_len, flat_map}
use Rattle.std.proofs.lemmas.List.{append-nil, map-id, take_all, take_at, drop_at, length-take-le}
use Rattle.std.proofs.lemmas.List.FromFn.{length-range_with_len, get_or-range_with_len, map-range_with_len_more}
use Rattle.std.proofs.lemmas.List.Concat.{flat_map-append}
use Rattle.std.proofs.Math.Seq.{take-add}
use Rattle.disk.specs.Image.{overwritten}
use Rattle.model.specs.Stream.{Octets}
use Rattle.model.specs.Files.{FileEntry, size, pointer, content_of}
use Rattle.fs_blocks.proofs.Octets.{blocks_from-flat_map}

-- ---- contents

pub range_more : (n : ℕ) → range_with_len 0 (n + 1) ≡ range_with_len 0 n ++ n ∷ []
range_more n =
    sym (map-id (range_with_len 0 (n + 1))) ∙ map-range_with_len_more (λ (i : ℕ). i) 0 n n (omega arith)
    ∙ ap (λ (l : List ℕ). l ++ n ∷ []) (map-id (range_with_len 0 n))

take_past : (xs ys : Octets) (n r : ℕ) → length xs ≡ n → take (n + r) (xs ++ ys) ≡ xs ++ take r ys
take_past xs ys n r long =
    take-add n r (xs ++ ys) ∙ ap (λ (l : Octets). l ++ take r (drop n (xs ++ ys))) (take_at xs ys n long)
    ∙ ap (λ (l : Octets). xs ++ take r l) (drop_at xs ys n long)

-- the octets of the first so many blocks
abbrev pub blocks_octets : List Octets → FileEntry → ℕ → Octets
blocks_octets blocks e n = flat_map (λ i. get_or blocks (pointer e i) []) (range_with_len 0 n)

pub length-blocks_octets : (blocks : List Octets) (e : FileEntry) (n : ℕ) → ((i : ℕ) → i < n
    → length (get_or blocks (pointer e i) []) ≡ 4096)
    → length (blocks_octets blocks e n) ≡ 4096 * n
length-blocks_octets blocks e n whole =
    (blocks_from-flat_map (λ i. get_or blocks (pointer e i) []) (range_with_len 0 n) each).0
    ∙ ap (λ (m : ℕ). 4096 * m) (length-range_with_len 0 n)
  where
    each : All (λ i. length (get_or blocks (pointer e i) []) ≡ 4096) (range_with_len 0 n)
    each k d low =
        let inside : k < n = omega (arith, length-range_with_len 0 n) in
        let none : 0 + k ≡ k = omega arith in
        ap (λ (i : ℕ). length (get_or blocks (pointer e i) [])) (get_or-range_with_len 0 n k d inside ∙ none) ∙ whole k inside

-- whole blocks, and the front of one more
pub content_front : (blocks : List Octets) (e : FileEntry) (n r : ℕ) → size e ≡ 4096 * n + r → r ≤ 4096
    → ((i : ℕ) → i < n → length (get_or blocks (pointer e i) []) ≡ 4096)
    → content_of blocks e ≡ blocks_octets blocks e n ++ take r (get_or blocks (pointer e n) [])
content_front blocks e n zero is few whole =
    let count : (size e + 4095) / 4096 ≡ n = omega arith in
    let all : length (blocks_octets blocks e n) ≤ size e = omega (arith, length-blocks_octets blocks e n whole) in
    ap (λ (m : ℕ). take (size e) (blocks_octets blocks e m)) count ∙ take_all (size e) (blocks_octets blocks e n) all
    ∙ sym (append-nil (blocks_octets blocks e n))
content_front blocks e n (suc r) is few whole =
    let count : (size e + 4095) / 4096 ≡ n + 1 = omega arith in
    ap (λ (m : ℕ). take (size e) (blocks_octets blocks e m)) count
    ∙ ap (λ (l : List ℕ). take (size e) (flat_map (λ i. get_or blocks (pointer e i) []) l)) (range_more n)
    ∙ ap (λ (l : Octets). take (size e) l) (flat_map-append (λ i. get_or blocks (pointer e i) []) (range_with_len 0 n) (n ∷ [])
    ∙ ap (λ (l : Octets). blocks_octets blocks e n ++ l) (append-nil (get_or blocks (pointer e n) [])))
    ∙ ap (λ (m : ℕ). take m (blocks_octets blocks e n ++ get_or blocks (pointer e n) [])) is
    ∙ take_past (blocks_octets blocks e n) (get_or blocks (pointer e n) []) (4096 * n) (suc r) (length-blocks_octets blocks e n whole)

-- a block with octets after its front
pub take_overwritten : (at : ℕ) (octets block : Octets) → at ≤ length block
    → take (at + length octets) (overwritten at octets block) ≡ take at block ++ octets
take_overwritten at octets block inside =
    take_past (take at block) (octets ++ drop (at + length octets) block) at (length octets) (length-take-le at block inside)
    ∙ ap (λ (l : Octets). take at block ++ l) (take_at octets (drop (at + length octets) block) (length octets) refl)
