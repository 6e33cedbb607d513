-- No file becomes too large.
use Rattle.std.proofs.Common.{◌≡◌, ◌≢◌, inl, inr, ◌<◌, ◌≤◌, ℕ, Option, Some, None, List, length, get_or, set, sym, ◌∙◌, ap, arith}
use Rattle.std.proofs.lemmas.Bool.{cases_eq}
use Rattle.std.proofs.lemmas.List.{get_or-set_other, get_or-set_same}
use Rattle.model.specs.Stream.{Octets}
use Rattle.model.specs.Files.{AreWithin, File, IsFile, IsFileSystem, HasRoom, content_of, entry, name_in, size, slot_of, table}
use Rattle.model.proofs.Owning.{content_size, zero_number}
use Rattle.fs_layout.specs.Table.{IsFileAt, Makes}
use Rattle.fs_layout.proofs.Tables.{file_at_file, get_or-table, length-table, named_from_there}
use Rattle.fs_inodes.proofs.Grown.{one_content}

module _ (most inodes k : ℕ) (name content : Octets) (old new : List Octets) (room : HasRoom inodes old) (fs : IsFileSystem inodes old)
    (low : k < inodes) (makes : Makes inodes (set (table inodes old) k (Some (record { name = name; content = content }))) new)
    (few : length content ≤ most) where
  long : (l : ℕ) → l < inodes → length (content_of new (entry inodes new l)) ≡ size (entry inodes new l)
  long l below = content_size new (entry inodes new l) makes.room.blocks_whole (λ b owns. (makes.rule.within l b below owns).1)

  there : (l : ℕ) → l < inodes → IsFile (entry inodes new l)
      → IsFileAt (set (table inodes old) k (Some (record { name = name; content = content }))) l (name_in (slot_of inodes new l))
      (content_of new (entry inodes new l))
  there l below file = sym (ap (λ (t : List (Option File)). get_or t l None) makes.files_are) ∙ get_or-table inodes new l below
      ∙ file_at_file inodes new l file

  pub within_kept : AreWithin most inodes old → AreWithin most inodes new
  within_kept all l below = elim (makes.rule.each l below) [
    | inl free ↦ (let none = zero_number 4 8 (entry inodes new l).inode free.inode_zeros in omega (arith, none))
    | inr file ↦ elim (cases_eq l k) [
      | inl is ↦
          let table_long = length-table inodes old in
          let same : content_of new (entry inodes new l) ≡ content =
          one_content (set (table inodes old) k (Some (record { name = name; content = content }))) l (name_in (slot_of inodes new l)) name
          (content_of new (entry inodes new l)) content (there l below file)
          (ap (λ (m : ℕ). get_or (set (table inodes old) k (Some (record { name = name; content = content }))) m None) is
          ∙ get_or-set_same (table inodes old) k (Some (record { name = name; content = content })) None
          (omega (arith, table_long, low))) in
          let size_is = ap (λ (o : Octets). length o) same in
          omega (arith, size_is, long l below, few)
      | inr other ↦
          let was : IsFileAt (table inodes old) l (name_in (slot_of inodes new l)) (content_of new (entry inodes new l)) =
          sym (get_or-set_other (table inodes old) k l (Some (record { name = name; content = content })) None other)
          ∙ there l below file in
          let named = named_from_there inodes old fs l (name_in (slot_of inodes new l)) (content_of new (entry inodes new l)) was in
          let old_long = content_size old (entry inodes old l) room.blocks_whole (λ b owns. (fs.within l b below owns).1) in
          let same = ap (λ (o : Octets). length o) named.content_is in
          omega (arith, same, old_long, long l below, all l below)
    ]
  ]
