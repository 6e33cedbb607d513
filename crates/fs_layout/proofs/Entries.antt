-- Entries: inodes, slots, and what they own.
use Rattle.std.proofs.Common.{◌≡◌, ◌≢◌, inl, inr, ◌<◌, ◌≤◌, ℕ, ◌-◌, cond, Bool, List, [], ◌∷◌, ◌++◌, length}
use Rattle.std.proofs.Common.{get_or, map, replicate, refl, sym, ◌∙◌, ap, subst, arith}
use Rattle.std.specs.List.{Contains, range_with_len}
use Rattle.std.proofs.lemmas.List.{take_at}
use Rattle.std.proofs.lemmas.List.Elements.{Contains-append_left, Contains-append_right, Contains-get_or}
use Rattle.std.proofs.lemmas.List.FromFn.{length-map-range_with_len, get_or-map-range_with_len}
use Rattle.std.proofs.lemmas.Bool.{ne_eqb}
use Rattle.model.specs.Stream.{Octets}
use Rattle.model.specs.Files.{FileEntry, IsFree, block_count, double_blocks, double_pointer, indirect_blocks, indirect_count}
use Rattle.model.specs.Files.{indirect_pointer, pointer, owned, name_in, slot_octets, slot_of, IsFileSystem}
use Rattle.model.proofs.Owning.{zero_at}

-- ---- a free entry

module _ (e : FileEntry) (free : IsFree e) where
  pub free_slot : (name : Octets) → 1 ≤ length name → e.slot ≢ slot_octets name
  free_slot name some same =
      let none = zero_at e.slot 0 free.slot_zeros in
      let first = ap (λ (s : Octets). get_or s 0 0) same in
      omega arith

-- ---- names

pub name_in-slot_octets : (name : Octets) → name_in (slot_octets name) ≡ name
name_in-slot_octets name = take_at name (replicate (63 - length name) 0) (length name) refl

-- the first octet of a slot is the length of a name
pub small_name : (inodes : ℕ) (blocks : List Octets) (fs : IsFileSystem inodes blocks) (at : ℕ) (low : at < inodes) (slot : Octets)
    (is : slot ≡ slot_of inodes blocks at) → get_or slot 0 0 ≤ 63
small_name inodes blocks fs at low slot is = elim (fs.each at low) [
  | inl free ↦ omega (arith, zero_at (slot_of inodes blocks at) 0 free.slot_zeros, ap (λ (s : Octets). get_or s 0 0) is)
  | inr file ↦ omega (arith, ap (λ (s : Octets). get_or s 0 0) (is ∙ file.slot_is), file.name_few)
]

-- ---- what an entry owns

pub in_range : (f : ℕ → ℕ) (n i : ℕ) → i < n → Contains (map f (range_with_len 0 n)) (f i)
in_range f n i low =
    subst (λ (m : ℕ). Contains (map f (range_with_len 0 n)) m)
    (get_or-map-range_with_len f 0 n i i 0 low (omega arith))
    (Contains-get_or (map f (range_with_len 0 n)) i 0 (omega (arith, length-map-range_with_len f 0 n)))

pub owns_indirect : (e : FileEntry) (p : ℕ) → p < indirect_count e → Contains (owned e) (indirect_pointer e p)
owns_indirect e p low =
    Contains-append_right (double_blocks e) (indirect_blocks e ++ map (λ i. pointer e i) (range_with_len 0 (block_count e)))
    (indirect_pointer e p)
    (Contains-append_left (indirect_blocks e) (map (λ i. pointer e i) (range_with_len 0 (block_count e))) (indirect_pointer e p)
    (in_range (λ q. indirect_pointer e q) (indirect_count e) p low))

pub owns_double : (e : FileEntry) → double_pointer e ≢ 0 → Contains (owned e) (double_pointer e)
owns_double e some =
    Contains-append_left (double_blocks e) (indirect_blocks e ++ map (λ i. pointer e i) (range_with_len 0 (block_count e)))
    (double_pointer e)
    (subst (λ (b : Bool). Contains (cond b [] (double_pointer e ∷ [])) (double_pointer e)) (sym (ne_eqb (double_pointer e) 0 some)) (
      0,
      omega arith,
      refl,
    ))
