-- How many blocks a change dirties.
use Rattle.std.proofs.Common.{◌≡◌, ◌⊎◌, inl, inr, ◌≤◌, ◌↔◌, ℕ, zero, suc, ◌+◌, List, [], ◌∷◌, ◌++◌, length, refl, sym, ◌∙◌, arith}
use Rattle.std.proofs.Common.{length-append}
use Rattle.std.specs.List.{Contains, range_with_len, remove}
use Rattle.std.proofs.lemmas.Bool.{cases_lt}
use Rattle.std.proofs.lemmas.List.FromFn.{length-range_with_len}
use Rattle.std.proofs.lemmas.List.{get_or_default}
use Rattle.std.proofs.lemmas.List.Elements.{Contains-append_left, Contains-append_right}
use Rattle.std.proofs.lemmas.List.Sorted.{Contains-permutation, IsPermutation-remove, length_permutation}
use Rattle.std.specs.Prelude.{IsPermutation}
use Rattle.model.specs.Files.{bitmap_blocks}
use Rattle.model.specs.Stream.{Octets}
use Rattle.model.specs.Volume.{AreDistinct}
use Rattle.model.proofs.Counting.{in_range}
use Rattle.fs.specs.Touches.{Touches}
use Rattle.fs_inodes.proofs.Owners.{contained}
use Rattle.journal_volume.specs.Volume.{Differs}
use Rattle.spool_growing.specs.Growing.{Dirties}

-- distinct numbers that are among others are no more than these
fewer : (xs ys : List ℕ) → AreDistinct xs → ((k : ℕ) → Contains xs k → Contains ys k) → length xs ≤ length ys
fewer [] ys once within = omega arith
fewer (x ∷ xs) ys once within =
    let at = within x (0, omega arith, refl) in
    let rest = remove ys at.0 in
    let moved : IsPermutation ys (x ∷ rest) = IsPermutation-remove ys at.0 x at.1 (sym at.2) in
    let shorter = fewer xs rest (λ i j less low. once (suc i) (suc j) (omega arith) (omega arith))
    (λ k has. left_over k has (Contains-permutation ys (x ∷ rest) k moved (within k (suc has.0, omega (arith, has.1), has.2)))) in
    omega (arith, shorter, length_permutation ys (x ∷ rest) moved)
  where
    left_over : (z : ℕ) → Contains xs z → Contains (x ∷ remove ys (within x (0, omega arith, refl)).0) z
        → Contains (remove ys (within x (0, omega arith, refl)).0) z
    left_over z has (zero, low, is) =
        absurd (once 0 (suc has.0) (omega arith) (omega (arith, has.1)) (is ∙ sym has.2 ∙ get_or_default xs has.0 z 0 has.1))
    left_over z has (suc k, low, is) = (k, omega arith, is)

-- the blocks that a change touches: those of the bitmap, and others
abbrev all_touched : (old new : List Octets) → Touches 254 old new → List ℕ
all_touched old new touches = range_with_len 0 (bitmap_blocks (length old)) ++ touches.others

reached : (old new : List Octets) (touches : Touches 254 old new) (k : ℕ) → Differs old new k → Contains (all_touched old new touches) k
reached old new touches k differs = elim (cases_lt k (bitmap_blocks (length old))) [
  | inl low ↦ Contains-append_left (range_with_len 0 (bitmap_blocks (length old))) touches.others k
      (in_range 0 (bitmap_blocks (length old)) k (omega arith) (omega (arith, low)))
  | inr high ↦ elim (contained touches.others k) [
    | inl has ↦ Contains-append_right (range_with_len 0 (bitmap_blocks (length old))) touches.others k has
    | inr none ↦ absurd (differs (sym (touches.same k high none)))
  ]
]

pub dirties : (old new : List Octets) (before after : List ℕ) → length new ≡ length old → Touches 254 old new
    → ((k : ℕ) → Contains after k ↔ (Contains before k ⊎ Differs old new k)) → AreDistinct after → Dirties old new before after
dirties old new before after count touches exactly once = record {
  size = count;
  exactly = exactly;
  distinct = once;
  few = omega (
    arith,
    fewer after (before ++ all_touched old new touches) once (λ k has. among k ((exactly k).0 has)),
    length-append before (all_touched old new touches),
    length-append (range_with_len 0 (bitmap_blocks (length old))) touches.others,
    length-range_with_len 0 (bitmap_blocks (length old)),
    touches.few,
  );
} where
  among : (k : ℕ) → Contains before k ⊎ Differs old new k → Contains (before ++ all_touched old new touches) k
  among k (inl has) = Contains-append_left before (all_touched old new touches) k has
  among k (inr differs) = Contains-append_right before (all_touched old new touches) k (reached old new touches k differs)
