-- A file without octets goes.
use Rattle.std.proofs.Common.{◌≡◌, inl, inr, ◌<◌, ℕ, ◌+◌, ◌/◌, cond, eqb, None, List, [], ◌∷◌, ◌++◌, length, set, replicate, refl, sym}
use Rattle.std.proofs.Common.{◌∙◌, ap, subst, arith}
use Rattle.std.specs.List.{All, Contains}
use Rattle.std.proofs.lemmas.List.Elements.{All-replicate}
use Rattle.std.proofs.lemmas.Bool.{cases_eq}
use Rattle.model.specs.Stream.{Octets}
use Rattle.model.specs.Files.{FileEntry, HasRoom, IsFile, IsFree, size, owned, double_pointer, entry, IsFileSystem, table}
use Rattle.model.specs.Files.{bitmap_blocks}
use Rattle.model.proofs.Owning.{free_owns}
use Rattle.fs_layout.specs.Blocks.{PutsRecord}
use Rattle.fs_layout.specs.Table.{Makes}
use Rattle.fs_layout.proofs.Tables.{file_at_free}
use Rattle.fs_layout.proofs.Keeps.{PutsEntry, puts_inode, puts_slot, inode_keeps_marks, slot_keeps_marks}
use Rattle.fs_inodes.proofs.Owned.{owned_to}
use Rattle.fs_inodes.proofs.Owners.{Reowns, names_left, reowned_makes}

empty_owns : (e : FileEntry) → IsFile e → size e ≡ 0 → owned e ≡ []
empty_owns e file empty =
    ap (λ (n : ℕ). owned_to e ((n + 4095) / 4096)) empty
    ∙ ap (λ (l : List ℕ). l ++ []) (elim (cases_eq (double_pointer e) 0) [
      | inl none ↦ ap (λ (n : ℕ). cond (eqb n 0) [] (n ∷ [])) none
      | inr some ↦ absurd (let more = file.double_where.1 some in omega (arith, more, empty))
    ])

zeros_all : All (λ (o : ℕ). o ≡ 0) (replicate 64 0)
zeros_all = All-replicate (λ o. o ≡ 0) 64 0 refl

module _ (inodes k : ℕ) (a b c : List Octets) (room : HasRoom inodes a) (fs : IsFileSystem inodes a) (low : k < inodes)
    (file : IsFile (entry inodes a k)) (empty : size (entry inodes a k) ≡ 0)
    (first : PutsRecord (bitmap_blocks (length a)) k (replicate 64 0) a b)
    (second : PutsRecord (bitmap_blocks (length b) + inodes / 64) k (replicate 64 0) b c) where
  puts : PutsEntry inodes k (replicate 64 0) (replicate 64 0) (λ n. ⊥) a c
  puts =
      let inode = puts_inode inodes k (replicate 64 0) a b room.whole low first in
      let slot = puts_slot inodes k (replicate 64 0) b c room.whole low second in
      record {
        count = slot.count ∙ inode.count;
        inode_is = slot.inode_is ∙ inode.inode_is;
        slot_is = slot.slot_is;
        inodes_other = λ l below other. slot.inodes_other l below other ∙ inode.inodes_other l below other;
        slots_other = λ l below other. slot.slots_other l below other ∙ inode.slots_other l below other;
        data_same = λ n high untouched. slot.data_same n (omega (arith, high, inode.count)) untouched ∙ inode.data_same n high untouched;
      }

  free : IsFree (entry inodes c k)
  free = record {
    inode_zeros = subst (λ (o : Octets). All (λ octet. octet ≡ 0) o) (sym puts.inode_is) zeros_all;
    slot_zeros = subst (λ (o : Octets). All (λ octet. octet ≡ 0) o) (sym puts.slot_is) zeros_all;
  }

  none_before : (n : ℕ) → ¬ (Contains (owned (entry inodes a k)) n)
  none_before n has = let none = subst (λ (o : List ℕ). Contains o n) (empty_owns (entry inodes a k) file empty) has in
      omega (arith, none.1)

  none_now : (n : ℕ) → ¬ (Contains (owned (entry inodes c k)) n)
  none_now n has = let none = subst (λ (o : List ℕ). Contains o n) (free_owns (entry inodes c k) free) has in omega (arith, none.1)

  owns : Reowns inodes k (λ n. ⊥) a c
  owns = record {
    here = inl free;
    untouched = λ l n below other has nothing. nothing;
    distinct = λ i j less inside. absurd (let none = ap (λ (o : List ℕ). length o) (free_owns (entry inodes c k) free) in omega arith);
    within = λ n has. absurd (none_now n has);
    source = λ n has. absurd (none_now n has);
    taken = λ n has. absurd (none_now n has);
    left = λ n small had lacks. absurd (none_before n had);
    same = λ n small had has. slot_keeps_marks inodes k (replicate 64 0) b c room.whole low second n (omega (arith, small, first.count))
        ∙ inode_keeps_marks inodes k (replicate 64 0) a b room.whole low first n small;
  }

  pub removes : Makes inodes (set (table inodes a) k None) c
  removes =
      reowned_makes inodes k (replicate 64 0) (replicate 64 0) (λ n. ⊥) a c low fs puts owns room
      (second.whole (first.whole room.blocks_whole))
      (names_left inodes k (replicate 64 0) (replicate 64 0) (λ n. ⊥) a c low fs puts owns free) None (file_at_free inodes c k free)
