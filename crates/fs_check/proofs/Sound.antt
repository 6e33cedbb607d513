-- The passes together decide the rule of blocks.
use Rattle.std.proofs.Common.{◌≡◌, inl, inr, ◌<◌, ℕ, List, length, sym, ◌∙◌}
use Rattle.std.proofs.lemmas.Bool.Decides.{same_from_decides}
use Rattle.model.specs.Stream.{Octets}
use Rattle.model.specs.Files.{bitmap_bits, double_pointer, indirect_pointer, entry, first_data, is_marked_used, IsFileSystem}
use Rattle.fs_layout.specs.Bits.{bit_of}
use Rattle.fs_check.specs.Checking.{IsEntry, HasOwners, MarksUsed, HasDistinctNames}
use Rattle.fs_layout.proofs.Entries.{owns_double, owns_indirect}
use Rattle.fs_check.proofs.Deciding.{can_read}

module _ (inodes : ℕ) (blocks : List Octets) where
  module _ (fs : IsFileSystem inodes blocks) where
    pub entries_from_rule : (k : ℕ) → k < inodes → IsEntry (first_data (length blocks) inodes) (length blocks) (entry inodes blocks k)
    entries_from_rule k low = elim (fs.each k low) [
      | inl free ↦ inl free
      | inr file ↦ inr (
        file,
        can_read (first_data (length blocks) inodes) (length blocks) (entry inodes blocks k) file
            (λ some. fs.within k (double_pointer (entry inodes blocks k)) low (owns_double (entry inodes blocks k) some))
            (λ p less. fs.within k (indirect_pointer (entry inodes blocks k) p) low (owns_indirect (entry inodes blocks k) p less)),
      )
    ]

    pub owners_from_rule : HasOwners inodes inodes blocks
    owners_from_rule = record { within = fs.within; distinct = fs.distinct; one_owner = fs.one_owner }

    pub bitmap_from_rule : (marks : Octets) → MarksUsed inodes inodes blocks marks → (b : ℕ) → b < bitmap_bits (length blocks)
        → is_marked_used blocks b ≡ bit_of marks b
    bitmap_from_rule marks used b small = same_from_decides (is_marked_used blocks b) (bit_of marks b) (fs.bits b small) (used b)

  pub rule_from_passes : (marks : Octets) → ((k : ℕ) → k < inodes
      → IsEntry (first_data (length blocks) inodes) (length blocks) (entry inodes blocks k))
      → HasOwners inodes inodes blocks → MarksUsed inodes inodes blocks marks
      → ((b : ℕ) → b < bitmap_bits (length blocks) → is_marked_used blocks b ≡ bit_of marks b) → HasDistinctNames inodes inodes blocks
      → IsFileSystem inodes blocks
  rule_from_passes marks entries owners used bitmap names = record {
    each = λ k low. elim (entries k low) [ inl free ↦ inl free | inr file ↦ inr file.0 ];
    within = owners.within;
    distinct = owners.distinct;
    one_owner = owners.one_owner;
    bits = λ b small. (
      (λ marked. (used b).0 (sym (bitmap b small) ∙ marked)),
      (λ now. bitmap b small ∙ (used b).1 now),
    );
    names_distinct = names;
  }
