-- Changes of marks and of blocks after the directory, and then of one inode.
use Rattle.std.proofs.Common.{◌≡◌, ◌≢◌, ◌<◌, ◌≤◌, ℕ, ◌+◌, ◌*◌, ◌/◌, ◌%◌, List, [], length, get_or, sym, ◌∙◌, ap, subst, arith}
use Rattle.std.specs.List.{All, Contains}
use Rattle.disk.specs.Image.{part}
use Rattle.model.specs.Stream.{Octets}
use Rattle.model.specs.Files.{HasRoom, entry, owned, slot_of, first_data, IsFileSystem}
use Rattle.model.specs.Files.{bitmap_blocks}
use Rattle.fs_layout.specs.Blocks.{PutsRecord}
use Rattle.fs_layout.proofs.Keeps.{PutsEntry, puts_inode, same_inode, same_slot}

-- no octet of an inode or a slot changes, and no other block but these and the bitmap
pub record PutsData (inodes : ℕ) (touched : ℕ → Type 0) (old new : List Octets) : Type 0 where
  pub count : length new ≡ length old
  pub whole : All (λ b. length b ≡ 4096) old → All (λ b. length b ≡ 4096) new
  pub blocks : (n : ℕ) → bitmap_blocks (length old) ≤ n → ¬ (touched n) → get_or new n [] ≡ get_or old n []
  pub above : (n : ℕ) → touched n → first_data (length old) inodes ≤ n

pub puts_both : (inodes : ℕ) (touched : ℕ → Type 0) (a b c : List Octets) → PutsData inodes touched a b → PutsData inodes touched b c
    → PutsData inodes touched a c
puts_both inodes touched a b c first second = record {
  count = second.count ∙ first.count;
  whole = λ all. second.whole (first.whole all);
  blocks = λ n high apart. second.blocks n (omega (arith, high, first.count)) apart ∙ first.blocks n high apart;
  above = first.above;
}

-- and then an inode
pub puts_then_inode : (inodes k : ℕ) (inode : Octets) (touched : ℕ → Type 0) (a b c : List Octets) → HasRoom inodes a → k < inodes
    → PutsData inodes touched a b → PutsRecord (bitmap_blocks (length b)) k inode b c
    → PutsEntry inodes k inode (slot_of inodes a k) touched a c
puts_then_inode inodes k inode touched a b c room low first second =
    let then = puts_inode inodes k inode b c room.whole low second in
    record {
      count = second.count ∙ first.count;
      inode_is = then.inode_is;
      slot_is = then.slot_is ∙ slot k low;
      inodes_other = λ l below other. then.inodes_other l below other ∙ same_inode a b l first.count
          ∙ ap (λ (o : Octets). part (l % 64 * 64) 64 o)
          (first.blocks (bitmap_blocks (length a) + l / 64) (omega arith)
          (λ is. let high = first.above (bitmap_blocks (length a) + l / 64) is in omega (arith, room.whole)));
      slots_other = λ l below other. then.slots_other l below other ∙ slot l below;
      data_same = λ n high apart. then.data_same n (omega (arith, high, first.count)) (λ none. none) ∙ first.blocks n (omega arith) apart;
    }
  where
    slot : (l : ℕ) → l < inodes → slot_of inodes b l ≡ slot_of inodes a l
    slot l below = same_slot inodes a b l first.count ∙ ap (λ (o : Octets). part (l % 64 * 64) 64 o)
        (first.blocks (bitmap_blocks (length a) + inodes / 64 + l / 64) (omega arith)
        (λ is. let high = first.above (bitmap_blocks (length a) + inodes / 64 + l / 64) is in omega (arith, room.whole)))

-- what another entry owns is none of these
pub untouched_by : (inodes k : ℕ) (old : List Octets) → IsFileSystem inodes old → k < inodes → (n : ℕ)
    → Contains (owned (entry inodes old k)) n → (l b : ℕ) → l < inodes → l ≢ k → Contains (owned (entry inodes old l)) b → ¬ (b ≡ n)
untouched_by inodes k old fs low n owns l b below other has is =
    other (fs.one_owner l k b below low has (subst (λ (m : ℕ). Contains (owned (entry inodes old k)) m) (sym is) owns))
