-- The blocks that name the blocks of a file in a file system.
use Rattle.std.proofs.Common.{◌≡◌, ◌≢◌, inl, inr, ◌<◌, ◌≤◌, ℕ, ◌-◌, ◌/◌, true, List, sym, arith}
use Rattle.std.specs.List.{Contains}
use Rattle.std.proofs.lemmas.Bool.{cases_eq, cases_order}
use Rattle.model.specs.Stream.{Octets}
use Rattle.model.specs.Files.{FileEntry, HasRoom, IsFile, IsFileSystem, block_count, double_pointer, entry, indirect_count}
use Rattle.model.specs.Files.{indirect_for, indirect_pointer, inode_of, is_marked_used, owned}
use Rattle.fs_layout.specs.Blocks.{IsThere}
use Rattle.fs_inodes.specs.Growing.{IsTaken, NamesBlocks, inode_entry}
use Rattle.fs_layout.proofs.Entries.{owns_double, owns_indirect}
use Rattle.fs_inodes.proofs.Owned.{double_not_table, tables_differ}

module _ (inodes k : ℕ) (old : List Octets) (room : HasRoom inodes old) (fs : IsFileSystem inodes old) (low : k < inodes) where
  abbrev e : FileEntry
  e = entry inodes old k

  pub owned_marked : (b : ℕ) → Contains (owned (entry inodes old k)) b → is_marked_used old b ≡ true
  owned_marked b has = (fs.bits b (omega (arith, (fs.within k b low has).1, room.count_few))).1 (inr (k, low, has))

  pub owned_taken : (b : ℕ) → Contains (owned (entry inodes old k)) b → IsTaken old b
  owned_taken b has = let inside = fs.within k b low has in
      record { some = omega (arith, inside.0); there = inside.1; marked = owned_marked b has }

  module _ (file : IsFile (entry inodes old k)) where
    double_some : 1 < indirect_count e → double_pointer e ≢ 0
    double_some = file.double_where.0

    pub file_names : NamesBlocks (indirect_for (block_count (entry inodes old k))) (inode_entry old (inode_of old k)) old
    file_names = record {
      there = λ p less. owned_taken (indirect_pointer e p) (owns_indirect e p less);
      none = λ p high. elim (cases_eq (indirect_pointer e p) 0) [
        | inl is ↦ is
        | inr some ↦ absurd (let less = (file.indirect_where p).1 some in omega (arith, less, high))
      ];
      differ = λ p q less_p less_q same. elim (cases_order p q) [
        | inl is ↦ is
        | inr ordered ↦ elim ordered [
          | inl below ↦ absurd (tables_differ e (block_count e) (fs.distinct k low) p q below less_q same)
          | inr above ↦ absurd (tables_differ e (block_count e) (fs.distinct k low) q p above less_p (sym same))
        ]
      ];
      double = λ more. owned_taken (double_pointer e) (owns_double e (double_some more));
      no_double = λ less. elim (cases_eq (double_pointer e) 0) [
        | inl is ↦ is
        | inr some ↦ absurd (let more = file.double_where.1 some in omega (arith, less, more))
      ];
      apart = λ p less same. elim (cases_eq (double_pointer e) 0) [
        | inl none ↦ absurd (let some = (owned_taken (indirect_pointer e p) (owns_indirect e p less)).some in
            omega (arith, some, same, none))
        | inr some ↦ double_not_table e (block_count e) (fs.distinct k low) p some less (sym same)
      ];
    }

    -- what the place of a pointer requires
    pub double_is_there : (i : ℕ) → i < block_count (entry inodes old k) → 1034 ≤ i → IsThere (double_pointer (entry inodes old k)) old
    double_is_there i less high =
        let taken = file_names.double (omega (arith, less, high)) in
        ((λ none. absurd (let some = taken.some in omega (arith, some, none))), taken.there)

    pub table_is_there : (i : ℕ) → i < block_count (entry inodes old k) → 10 ≤ i
        → IsThere (indirect_pointer (entry inodes old k) ((i - 10) / 1024)) old
    table_is_there i less high =
        let taken = file_names.there ((i - 10) / 1024) (omega (arith, less, high)) in
        ((λ none. absurd (let some = taken.some in omega (arith, some, none))), taken.there)
