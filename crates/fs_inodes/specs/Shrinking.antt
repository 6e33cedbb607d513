-- Files that lose blocks.
use Rattle.std.specs.Prelude.{◌≡◌, ◌≢◌, ◌⊎◌, ◌<◌, ◌≤◌, ℕ, ◌+◌, ◌-◌, ◌/◌, false, List, [], ◌∷◌, ◌++◌, length, slice_index_or}
use Rattle.std.specs.List.{All, Contains}
use Rattle.model.specs.Stream.{Octets}
use Rattle.model.specs.Volume.{number_at}
use Rattle.model.specs.Files.{double_blocks, double_pointer, indirect_for, indirect_pointer, pointer, is_marked_used}
use Rattle.model.specs.Files.{bitmap_bits, bitmap_blocks}
use Rattle.fs_inodes.specs.Growing.{inode_entry, tables_to}

-- these blocks are no longer marked, and no other mark changes
pub record GivesUp (gone : List ℕ) (old new : List Octets) : Type 0 where
  pub free : (b : ℕ) → Contains gone b → is_marked_used new b ≡ false
  pub other : (b : ℕ) → b < bitmap_bits (length old) → ¬ (Contains gone b) → is_marked_used new b ≡ is_marked_used old b

-- an inode loses its p-th block of pointers, which is the last, and the double-indirect block if that names no other
pub record DropsTable (p : ℕ) (inode inode' : Octets) (old new : List Octets) : Type 0 where
  pub count : length new ≡ length old
  pub whole : All (λ b. length b ≡ 4096) old → All (λ b. length b ≡ 4096) new
  pub size : length inode' ≡ length inode
  pub head : (a w : ℕ) → a + w ≤ 52 → number_at a w inode' ≡ number_at a w inode
  pub tail : (a w : ℕ) → 60 ≤ a → number_at a w inode' ≡ number_at a w inode
  pub here : indirect_pointer (inode_entry new inode') p ≡ 0
  pub other : (q : ℕ) → q ≢ p → indirect_pointer (inode_entry new inode') q ≡ indirect_pointer (inode_entry old inode) q
  pub octets : (q : ℕ) → q ≢ p → (inode_entry new inode').pointers q ≡ (inode_entry old inode).pointers q
  pub doubles : List ℕ
  pub double : ((p ≢ 1) × (doubles ≡ []) × (number_at 56 4 inode' ≡ number_at 56 4 inode))
      ⊎ ((p ≡ 1) × (doubles ≡ number_at 56 4 inode ∷ []) × (number_at 56 4 inode' ≡ 0))
  pub gives_up : GivesUp (doubles ++ indirect_pointer (inode_entry old inode) p ∷ []) old new
  pub blocks : (b : ℕ) → bitmap_blocks (length old) ≤ b → b ≢ number_at 56 4 inode → slice_index_or new b [] ≡ slice_index_or old b []

-- an inode loses its i-th pointer, which is the last, and the blocks of pointers that only that pointer needed
pub record DropsPointer (i : ℕ) (inode inode' : Octets) (old new : List Octets) : Type 0 where
  pub count : length new ≡ length old
  pub whole : All (λ b. length b ≡ 4096) old → All (λ b. length b ≡ 4096) new
  pub size : length inode' ≡ length inode
  pub here : pointer (inode_entry new inode') i ≡ 0
  pub other : (j : ℕ) → j ≢ i → pointer (inode_entry new inode') j ≡ pointer (inode_entry old inode) j
  pub head : (a w : ℕ) → a + w ≤ 12 → number_at a w inode' ≡ number_at a w inode
  pub tail : (a w : ℕ) → 60 ≤ a → number_at a w inode' ≡ number_at a w inode
  pub double : 1 < indirect_for i → double_pointer (inode_entry new inode') ≡ double_pointer (inode_entry old inode)
  pub no_double : indirect_for i ≤ 1 → double_pointer (inode_entry new inode') ≡ 0
  pub table : (p : ℕ) → p < indirect_for i → indirect_pointer (inode_entry new inode') p ≡ indirect_pointer (inode_entry old inode) p
  pub no_table : (p : ℕ) → indirect_for i ≤ p → indirect_pointer (inode_entry new inode') p ≡ 0
  pub doubles : List ℕ
  pub doubles_are : double_blocks (inode_entry old inode) ≡ double_blocks (inode_entry new inode') ++ doubles
  pub tables : List ℕ
  pub tables_are : tables_to (inode_entry old inode) (indirect_for (i + 1)) ≡ tables_to (inode_entry new inode') (indirect_for i) ++ tables
  pub gives_up : GivesUp (doubles ++ tables) old new
  pub blocks : (b : ℕ) → bitmap_blocks (length old) ≤ b → b ≢ double_pointer (inode_entry old inode)
      → b ≢ indirect_pointer (inode_entry old inode) ((i - 10) / 1024)
      → slice_index_or new b [] ≡ slice_index_or old b []
