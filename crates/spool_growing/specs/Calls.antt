-- Calls on the files of blocks, in any order of their inodes.
use Rattle.std.specs.Prelude.{◌≡◌, ◌≢◌, ℕ, ◌+◌, ◌<◌, ◌≤◌, List, [], ◌∷◌, ◌++◌, length, map, take, slice_get, slice_index_or, unwrap_or}
use Rattle.std.specs.Prelude.{Option, Some, None, option_map, IsPermutation}
use Rattle.std.specs.List.{sum_by}
use Rattle.model.specs.Stream.{Octets}
use Rattle.model.specs.Files.{File, HasRoom, IsFileSystem, files_in, free_blocks, free_inodes, table, largest_file}
use Rattle.model.specs.Asked.{blocks_taken}
pub use Rattle.model.specs.Asked.{blocks_for_more}
use Rattle.model.specs.FileCalls.{FileCall, Create, Append, after_calls, making_calls}
use Rattle.model.specs.Packs.{pack_name}
use Rattle.fs.specs.Calls.{IsFileAt}
use Rattle.fs.specs.Growing.{KeepsMarks}
use Rattle.fs.specs.Touches.{touched_by_growth}
use Rattle.fs_layout.specs.Marks.{NoneFreeBelow}
use Rattle.model.specs.Indexed.{KeepsFiles}
use Rattle.spool_index.specs.Places.{name_of}
use Rattle.spool_growing.specs.declared.file_calls.Free.{Free}
use Rattle.spool_growing.specs.declared.file_calls.Piece.{Piece}

-- these calls were made on the files; each file stays in its inode, and grows only at its end
pub record Calls (inodes : ℕ) (calls : List FileCall) (old new : List Octets) : Type 0 where
  pub count : length new ≡ length old
  pub room : HasRoom inodes new
  pub rule : IsFileSystem inodes new
  pub files : (files : List File) → IsPermutation (files_in (table inodes old)) files
      → IsPermutation (files_in (table inodes new)) (after_calls files calls)
  pub keeps : KeepsFiles (table inodes old) (table inodes new)
  pub marks : KeepsMarks old new
  -- they took at most this many blocks
  pub free : free_blocks old ≤ free_blocks new + sum_by blocks_taken calls

-- no other file changes
abbrev pub SameFilesBut : ℕ → ℕ → List Octets → List Octets → Type 0
SameFilesBut inodes at old new = (k : ℕ) → k ≢ at → slice_index_or (table inodes new) k None ≡ slice_index_or (table inodes old) k None

-- the file of this inode has room for this many more octets
pub record MayGrow (inodes at more : ℕ) (blocks : List Octets) : Type 0 where
  pub name : Octets
  pub content : Octets
  pub there : IsFileAt (table inodes blocks) at name content
  pub small : length content + more ≤ largest_file

-- none of the first n inodes is free
abbrev pub AreUsed : ℕ → List (Option File) → Type 0
AreUsed n inodes = (k : ℕ) → k < n → slice_index_or inodes k None ≢ None

-- the pack is the file of this inode
abbrev pub IsPackAt : List (Option File) → ℕ → Type 0
IsPackAt inodes k = (content : Octets) × IsFileAt inodes k pack_name content

-- no inode and no block below these is free, this many of them are free, and the pack is the file of this inode if one is given
pub record IsKnown (inodes : ℕ) (free : Free) (blocks : List Octets) : Type 0 where
  pub used : AreUsed free.inode (table inodes blocks)
  pub none : NoneFreeBelow free.block blocks
  pub left : free.inodes ≡ free_inodes inodes blocks
  pub count : free.blocks ≡ free_blocks blocks
  pub pack : (k : ℕ) → free.pack ≡ Some k → IsPackAt (table inodes blocks) k

-- this inode, which was the lowest free one, got an empty file of this name
pub record CreatesAt (inodes at : ℕ) (name : Octets) (old new : List Octets) : Type 0 where
  pub calls : Calls inodes (Create name ∷ []) old new
  pub there : IsFileAt (table inodes new) at name []
  pub others : SameFilesBut inodes at old new
  pub used : AreUsed at (table inodes new)

-- these octets were appended to the file of this inode
pub record AppendsAt (inodes at : ℕ) (octets : Octets) (old new : List Octets) : Type 0 where
  pub name : Octets
  pub content : Octets
  pub was : IsFileAt (table inodes old) at name content
  pub calls : Calls inodes (Append name octets ∷ []) old new
  pub there : IsFileAt (table inodes new) at name (content ++ octets)
  pub others : SameFilesBut inodes at old new

-- this inode, which was the lowest free one, got a file of this name with these octets
pub record MakesAt (inodes at : ℕ) (name octets : Octets) (old new : List Octets) : Type 0 where
  pub calls : Calls inodes (making_calls name octets) old new
  pub there : IsFileAt (table inodes new) at name octets
  pub others : SameFilesBut inodes at old new
  pub used : AreUsed at (table inodes new)

-- ---- pieces

-- the most octets that a piece may have
abbrev pub largest_piece : ℕ
largest_piece = 8_191

-- each of the pieces has room in the file of its inode, and no two go to one file
pub record MayAllGrow (inodes : ℕ) (pieces : List Piece) (blocks : List Octets) : Type 0 where
  pub each : (k : ℕ) (p : Piece) → slice_get pieces k ≡ Some p → MayGrow inodes p.at (length p.octets.items) blocks
  pub small : (k : ℕ) (p : Piece) → slice_get pieces k ≡ Some p → length p.octets.items ≤ largest_piece
  pub apart : (j k : ℕ) (p q : Piece) → j < k → slice_get pieces j ≡ Some p → slice_get pieces k ≡ Some q → p.at ≢ q.at

-- the call that appends a piece to its file
abbrev pub append_call : List (Option File) → Piece → FileCall
append_call inodes p = Append (unwrap_or (name_of inodes p.at) []) p.octets.items

-- the size of the file of this inode, 0 if there is none
abbrev pub size_at : List (Option File) → ℕ → ℕ
size_at inodes k = unwrap_or (option_map (λ (f : File). length f.content) (slice_index_or inodes k None)) 0

-- the most blocks that change when these pieces are appended to their files
abbrev pub touched_by_pieces : List (Option File) → List Piece → ℕ
touched_by_pieces inodes pieces = sum_by (λ p. touched_by_growth (size_at inodes p.at) (length p.octets.items)) pieces

-- the first n of these pieces were appended to their files, and no other file changed
pub record AppendsFirst (inodes : ℕ) (pieces : List Piece) (n : ℕ) (old new : List Octets) : Type 0 where
  pub calls : Calls inodes (map (append_call (table inodes old)) (take n pieces)) old new
  pub others : (i : ℕ) → ((k : ℕ) (p : Piece) → k < n → slice_get pieces k ≡ Some p → i ≢ p.at)
      → slice_index_or (table inodes new) i None ≡ slice_index_or (table inodes old) i None
