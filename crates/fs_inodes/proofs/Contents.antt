-- Parts of a file's content.
use Rattle.std.proofs.Common.{◌≡◌, ◌⊎◌, inl, inr, ◌<◌, ◌≤◌, ℕ, ◌+◌, ◌-◌, ◌*◌, ◌/◌, ◌%◌, List, [], ◌++◌, length, get_or, take, drop, sym}
use Rattle.std.proofs.Common.{◌∙◌, ap, arith, length-drop}
use Rattle.std.specs.Prelude.{min}
use Rattle.std.specs.List.{All, Contains, range_with_len, flat_map}
use Rattle.std.proofs.lemmas.List.{drop-take, take-take, drop-drop, length-take, take_all}
use Rattle.std.proofs.Math.Seq.{take-add}
use Rattle.std.proofs.lemmas.List.FromFn.{get_or-range_with_len, get_or-map-range_with_len, length-range_with_len}
use Rattle.model.specs.Stream.{Octets}
use Rattle.model.specs.Volume.{block, blocks_from}
use Rattle.model.specs.Files.{FileEntry, size, block_count, pointer, owned, content_of}
use Rattle.model.proofs.Owning.{owns_pointer}
use Rattle.model.proofs.Blocks.{get_or-blocks_from}
use Rattle.fs_blocks.proofs.Octets.{blocks_from-flat_map}

-- a part of a front
part_of_front : (r n m : ℕ) (octets : Octets) → r + n ≤ m → take n (drop r (take m octets)) ≡ take n (drop r octets)
part_of_front r n m octets fits =
    let is : m ≡ r + (m - r) = omega arith in
    ap (λ (k : ℕ). take n (drop r (take k octets))) is
    ∙ ap (λ (l : Octets). take n l) (drop-take r (m - r) octets)
    ∙ take-take n (m - r) (drop r octets) (omega arith)

module _ (blocks : List Octets) (e : FileEntry) (whole : All (λ b. length b ≡ 4096) blocks) (within : (b : ℕ) → Contains (owned e) b
    → b < length blocks) where
  abbrev blocks_of : Octets
  blocks_of = flat_map (λ i. get_or blocks (pointer e i) []) (range_with_len 0 (block_count e))

  each : All (λ i. length (get_or blocks (pointer e i) []) ≡ 4096) (range_with_len 0 (block_count e))
  each k d low =
      let inside : k < block_count e = omega (arith, length-range_with_len 0 (block_count e)) in
      let none : 0 + k ≡ k = omega arith in
      ap (λ (i : ℕ). length (get_or blocks (pointer e i) [])) (get_or-range_with_len 0 (block_count e) k d inside ∙ none)
      ∙ whole (pointer e k) [] (within (pointer e k) (owns_pointer e k inside))

  -- its k-th block
  pub block_of_content : (k : ℕ) → k < block_count e → block k blocks_of ≡ get_or blocks (pointer e k) []
  block_of_content k low =
      let many = length-range_with_len 0 (block_count e) in
      sym (get_or-blocks_from (block_count e) k blocks_of low)
      ∙ ap (λ (n : ℕ). get_or (blocks_from 0 n blocks_of) k []) (sym many)
      ∙ ap (λ (l : List Octets). get_or l k [])
      (blocks_from-flat_map (λ i. get_or blocks (pointer e i) []) (range_with_len 0 (block_count e)) each).1
      ∙ get_or-map-range_with_len (λ i. get_or blocks (pointer e i) []) 0 (block_count e) k k [] low (omega arith)

  -- a part that lies in one block
  pub content_part : (at n : ℕ) → at + n ≤ size e → at % 4096 + n ≤ 4096 → 0 < n
      → take n (drop at (content_of blocks e)) ≡ take n (drop (at % 4096) (get_or blocks (pointer e (at / 4096)) []))
  content_part at n fits inside some =
      let low : at / 4096 < block_count e = omega arith in
      let is : at ≡ 4096 * (at / 4096) + at % 4096 = omega arith in
      part_of_front at n (size e) blocks_of fits
      ∙ ap (λ (k : ℕ). take n (drop k blocks_of)) is
      ∙ ap (λ (l : Octets). take n l) (sym (drop-drop (at % 4096) (4096 * (at / 4096)) blocks_of))
      ∙ sym (part_of_front (at % 4096) n 4096 (drop (4096 * (at / 4096)) blocks_of) inside)
      ∙ ap (λ (l : Octets). take n (drop (at % 4096) l)) (block_of_content (at / 4096) low)

-- one part after another
pub take_then : (octets : Octets) (place from some : ℕ) → place ≤ from
    → take (from + some - place) (drop place octets) ≡ take (from - place) (drop place octets) ++ take some (drop from octets)
take_then octets place from some low =
    let more : from + some - place ≡ (from - place) + some = omega arith in
    let start : place + (from - place) ≡ from = omega arith in
    ap (λ (n : ℕ). take n (drop place octets)) more
    ∙ take-add (from - place) some (drop place octets)
    ∙ ap (λ (l : Octets). take (from - place) (drop place octets) ++ take some l) (drop-drop (from - place) place octets
    ∙ ap (λ (n : ℕ). drop n octets) start)

-- all that was asked for
pub taken_all : (octets : Octets) (place count from end : ℕ) → end ≤ from → place ≤ from → (from ≡ place) ⊎ (from ≤ end)
    → (end ≡ length octets) ⊎ (end ≡ place + count) → end ≤ length octets → end ≤ place + count
    → take (from - place) (drop place octets) ≡ take count (drop place octets)
taken_all octets place count from end ended low which what fits asked = elim what [
  | inr counted ↦ elim which [
    | inl none ↦ let is : from - place ≡ count = omega arith in ap (λ (n : ℕ). take n (drop place octets)) is
    | inr last ↦ let is : from - place ≡ count = omega arith in ap (λ (n : ℕ). take n (drop place octets)) is
  ]
  | inl whole ↦ take_all (from - place) (drop place octets) (omega (arith, length-drop place octets))
      ∙ sym (take_all count (drop place octets) (omega (arith, length-drop place octets)))
]

-- how many octets a piece has
pub piece_size : (content octets : List ℕ) (from end few : ℕ) → octets ≡ take (min (end - from) few) (drop from content)
    → end ≤ length content → from ≤ end → length octets ≡ min (end - from) few
piece_size content octets from end few is fits order =
    ap (λ (l : List ℕ). length l) is ∙ length-take (min (end - from) few) (drop from content)
    ∙ shorter (end - from) few (length (drop from content)) (omega (arith, length-drop from content))
  where
    shorter : (a b c : ℕ) → a ≤ c → min (min a b) c ≡ min a b
    shorter a b c low = omega arith
