-- Entries by their kind.
use Rattle.model.specs.Files.{largest_file, largest_file_one, most_octets}
use Rattle.std.proofs.Common.{◌≡◌, ◌≢◌, ◌↔◌, inl, inr, ◌<◌, ◌≤◌, ℕ, cond, eqb, Bool, true, false}
use Rattle.std.proofs.Common.{arith}
use Rattle.std.proofs.lemmas.Bool.{cases_eq, cases_lt}
use Rattle.model.specs.Files.{FileEntry, IsFile, IsFree, double_pointer, indirect_count, indirect_pointer, kind, size}
use Rattle.model.proofs.Owning.{zero_number, free_kind}
use Rattle.fs_check.specs.Checking.{CanRead, HasNumber, IsSlot, HasPointers, IsEntry}

module _ (first count : ℕ) (e : FileEntry) where
  pub entry_from_file : (most : ℕ) → most ≤ largest_file → first ≢ 0 → kind e ≡ 1 → IsSlot e.slot → HasPointers most first count e
      → IsEntry first count e × (size e ≤ most)
  entry_from_file most few some is slot pointers = (
    inr (
      record {
        kind_is = is;
        small = omega (arith, pointers.small, few);
        spare = pointers.spare;
        double_where = named_where 1 (indirect_count e) (double_pointer e) pointers.double;
        indirect_where = λ p. named_where p (indirect_count e) (indirect_pointer e p) (pointers.tables p);
        no_other_pointer = pointers.no_other_pointer;
        name_some = slot.name_some;
        name_few = slot.name_few;
        slot_is = slot.slot_is;
      },
      record { double = pointers.double; tables = pointers.tables },
    ),
    pointers.small,
  )
    where
      named_where : (place many number : ℕ) → HasNumber first count place many number → (place < many) ↔ (number ≢ 0)
      named_where place many number (inl there) = ((λ less none. some (omega (arith, there.1, none))), (λ any. there.0))
      named_where place many number (inr none) = ((λ less. absurd (omega (arith, less, none.0))), (λ any. absurd (any none.1)))

  pub slot_from_entry : kind e ≡ 1 → IsEntry first count e → IsSlot e.slot
  slot_from_entry is (inl free) = absurd (omega (arith, free_kind e free))
  slot_from_entry is (inr file) = record { name_some = file.0.name_some; name_few = file.0.name_few; slot_is = file.0.slot_is }

  pub pointers_from_entry : (most : ℕ) → kind e ≡ 1 → IsEntry first count e → size e ≤ most → HasPointers most first count e
  pointers_from_entry most is (inl free) small = absurd (omega (arith, free_kind e free))
  pointers_from_entry most is (inr file) small = record {
    small = small;
    spare = file.0.spare;
    double = file.1.double;
    tables = file.1.tables;
    no_other_pointer = file.0.no_other_pointer;
  }

  pub free_from_entry : kind e ≡ 0 → IsEntry first count e → IsFree e
  free_from_entry is (inl free) = free
  free_from_entry is (inr file) = absurd (omega (arith, file.0.kind_is))

  pub no_entry : kind e ≢ 0 → kind e ≢ 1 → ¬ (IsEntry first count e)
  no_entry other another (inl free) = other (free_kind e free)
  no_entry other another (inr file) = another file.0.kind_is

-- the pointers of a file within a file system can be read
pub can_read : (first count : ℕ) (e : FileEntry) → IsFile e → (double_pointer e ≢ 0
    → (first ≤ double_pointer e) × (double_pointer e < count))
    → ((p : ℕ) → p < indirect_count e → (first ≤ indirect_pointer e p) × (indirect_pointer e p < count)) → CanRead first count e
can_read first count e file double table = record {
  double = elim (cases_lt 1 (indirect_count e)) [
    | inl more ↦ let within = double (file.double_where.0 more) in inl (more, within.0, within.1)
    | inr less ↦ inr (
      less,
      elim (cases_eq (double_pointer e) 0) [
        | inl none ↦ none
        | inr some ↦ absurd (let more = file.double_where.1 some in omega (arith, more, less))
      ],
    )
  ];
  tables = λ p. elim (cases_lt p (indirect_count e)) [
    | inl less ↦ let within = table p less in inl (less, within.0, within.1)
    | inr past ↦ inr (
      past,
      elim (cases_eq (indirect_pointer e p) 0) [
        | inl none ↦ none
        | inr some ↦ absurd (let less = (file.indirect_where p).1 some in omega (arith, less, past))
      ],
    )
  ];
}

pub most_few : (format : ℕ) → most_octets format ≤ largest_file
most_few format = by_test (eqb format 1) where
  by_test : (b : Bool) → cond b largest_file_one largest_file ≤ largest_file
  by_test true = omega arith
  by_test false = omega arith

-- a free entry is small
pub free_small : (most : ℕ) (e : FileEntry) → IsFree e → size e ≤ most
free_small most e free = let none = zero_number 4 8 e.inode free.inode_zeros in omega (arith, none)
