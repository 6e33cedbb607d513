-- Files by inode.
use Rattle.std.proofs.Common.{◌≡◌, ◌≢◌, inl, inr, ◌<◌, ◌≤◌, ℕ, cond, eqb, Option, Some, None, List, [], length, get_or, set, sym, ◌∙◌, ap}
use Rattle.std.proofs.Common.{arith, length-set}
use Rattle.std.proofs.lemmas.List.{get_or_past, ext_get_or, get_or-set_same, get_or-set_other}
use Rattle.std.proofs.lemmas.List.FromFn.{length-map-range_with_len, get_or-map-range_with_len}
use Rattle.std.proofs.lemmas.Bool.{cases_lt, cases_eq}
use Rattle.model.specs.Stream.{Octets}
use Rattle.model.specs.Files.{File, IsFile, IsFree, name_in, slot_octets, content_of, entry, slot_of, IsFileSystem, file_at, table}
use Rattle.model.proofs.Owning.{free_kind}
use Rattle.fs_layout.specs.Table.{IsFileAt, IsThere}
use Rattle.fs_layout.proofs.Entries.{free_slot, name_in-slot_octets}

abbrev pub file_or : Option File → File
file_or None = record { name = []; content = [] }
file_or (Some f) = f

module _ (inodes : ℕ) (blocks : List Octets) where
  pub length-table : length (table inodes blocks) ≡ inodes
  length-table = length-map-range_with_len (λ k. file_at inodes blocks k) 0 inodes

  pub get_or-table : (k : ℕ) → k < inodes → get_or (table inodes blocks) k None ≡ file_at inodes blocks k
  get_or-table k low = get_or-map-range_with_len (λ k. file_at inodes blocks k) 0 inodes k k None low (omega arith)

  pub file_at_free : (k : ℕ) → IsFree (entry inodes blocks k) → file_at inodes blocks k ≡ None
  file_at_free k free =
      ap (λ (n : ℕ). cond (eqb n 0) None
      (Some (record { name = name_in (slot_of inodes blocks k); content = content_of blocks (entry inodes blocks k) })))
      (free_kind (entry inodes blocks k) free)

  pub file_at_file : (k : ℕ) → IsFile (entry inodes blocks k)
      → file_at inodes blocks k ≡ Some (record {
        name = name_in (slot_of inodes blocks k);
        content = content_of blocks (entry inodes blocks k);
      })
  file_at_file k file =
      ap (λ (n : ℕ). cond (eqb n 0) None
      (Some (record { name = name_in (slot_of inodes blocks k); content = content_of blocks (entry inodes blocks k) }))) file.kind_is

  -- a file of this name
  pub record IsNamed (k : ℕ) (name content : Octets) : Type 0 where
    pub below : k < inodes
    pub file : IsFile (entry inodes blocks k)
    pub slot : slot_of inodes blocks k ≡ slot_octets name
    pub content_is : content ≡ content_of blocks (entry inodes blocks k)

  module _ (fs : IsFileSystem inodes blocks) where
    pub named_from_there : (k : ℕ) (name content : Octets) → IsFileAt (table inodes blocks) k name content → IsNamed k name content
    named_from_there k name content is = elim (cases_lt k inodes) [
      | inr past ↦ absurd (let none = get_or_past (table inodes blocks) k None (omega (arith, length-table)) in cc)
      | inl low ↦ elim (fs.each k low) [
        | inl free ↦ absurd (let none = get_or-table k low ∙ file_at_free k free in cc)
        | inr file ↦
            let some = sym (get_or-table k low ∙ file_at_file k file) ∙ is in
            let names = ap (λ (o : Option File). (file_or o).name) some in
            let contents = sym (ap (λ (o : Option File). (file_or o).content) some) in
            record {
              below = low;
              file = file;
              slot = file.slot_is ∙ ap slot_octets names;
              content_is = contents;
            }
      ]
    ]

    pub file_from_slot : (k : ℕ) (name : Octets) → k < inodes → 1 ≤ length name → slot_of inodes blocks k ≡ slot_octets name
        → IsFile (entry inodes blocks k)
    file_from_slot k name low some slot = elim (fs.each k low) [
      | inl free ↦ absurd (free_slot (entry inodes blocks k) free name some slot)
      | inr file ↦ file
    ]

    pub there_from_slot : (k : ℕ) (name : Octets) → k < inodes → 1 ≤ length name → slot_of inodes blocks k ≡ slot_octets name
        → IsFileAt (table inodes blocks) k name (content_of blocks (entry inodes blocks k))
    there_from_slot k name low some slot =
        get_or-table k low ∙ file_at_file k (file_from_slot k name low some slot)
        ∙ ap (λ (n : Octets). Some (record { name = n; content = content_of blocks (entry inodes blocks k) })) (ap name_in slot
        ∙ name_in-slot_octets name)

    pub no_slot : (name : Octets) → ((k : ℕ) → k < inodes → slot_of inodes blocks k ≢ slot_octets name)
        → ¬ (IsThere (table inodes blocks) name)
    no_slot name none (k, content, is) = let named = named_from_there k name content is in none k named.below named.slot

-- a name has one file
pub there_once : (inodes : ℕ) (blocks : List Octets) → IsFileSystem inodes blocks → (k l : ℕ) (name c d : Octets)
    → IsFileAt (table inodes blocks) k name c → IsFileAt (table inodes blocks) l name d → c ≡ d
there_once inodes blocks fs k l name c d first second =
    let one = named_from_there inodes blocks fs k name c first in
    let other = named_from_there inodes blocks fs l name d second in
    let same = fs.names_distinct k l one.below other.below one.file other.file (ap name_in (one.slot ∙ sym other.slot)) in
    one.content_is ∙ ap (λ (n : ℕ). content_of blocks (entry inodes blocks n)) same ∙ sym other.content_is

-- one inode has another file
pub table_set : (inodes k : ℕ) (old new : List Octets) (file : Option File) → k < inodes
    → ((l : ℕ) → l < inodes → l ≢ k → file_at inodes new l ≡ file_at inodes old l) → file_at inodes new k ≡ file
    → table inodes new ≡ set (table inodes old) k file
table_set inodes k old new file low others here =
    ext_get_or None (table inodes new) (set (table inodes old) k file) (length-table inodes new
    ∙ sym (length-set (table inodes old) k file ∙ length-table inodes old)) each
  where
    each : (l : ℕ) → l < length (table inodes new) → get_or (table inodes new) l None ≡ get_or (set (table inodes old) k file) l None
    each l inside =
        let below : l < inodes = omega (arith, length-table inodes new) in
        elim (cases_eq l k) [
          | inl same ↦
              get_or-table inodes new l below ∙ ap (λ (m : ℕ). file_at inodes new m) same ∙ here
              ∙ sym (ap (λ (m : ℕ). get_or (set (table inodes old) k file) m None) same
              ∙ get_or-set_same (table inodes old) k file None (omega (arith, length-table inodes old)))
          | inr other ↦
              get_or-table inodes new l below ∙ others l below other
              ∙ sym (get_or-set_other (table inodes old) k l file None other ∙ get_or-table inodes old l below)
        ]
