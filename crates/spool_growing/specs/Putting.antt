-- The file of a change, put into an inode of its own or into the pack.
use Rattle.std.specs.Prelude.{◌≡◌, ◌≢◌, ◌⊎◌, ℕ, ◌+◌, List, [], ◌∷◌, slice_get, Option, Some}
use Rattle.model.specs.Stream.{Octets}
use Rattle.model.specs.Files.{File, table}
use Rattle.model.specs.FileCalls.{FileCall, Append, making_calls}
use Rattle.model.specs.Indexed.{Alone, ChangePlace, IsAt, Packed}
use Rattle.model.specs.Packs.{member_octets, pack_name}
use Rattle.model.specs.Room.{content_blocks}
use Rattle.fs.specs.Calls.{IsThere}
use Rattle.spool_index.specs.Places.{name_of}
use Rattle.spool_growing.specs.declared.file_calls.Piece.{Piece}
use Rattle.spool_growing.specs.Calls.{Calls, SameFilesBut}

-- the inode of the file at a place, or of the pack that it stands in
abbrev pub inode_at : ChangePlace → ℕ
inode_at (Alone inode) = inode
inode_at (Packed inode from size) = inode

-- these calls put the file there: they make it, or append it to the pack, which they make if there is none
abbrev pub ArePutting : List (Option File) → ChangePlace → File → List FileCall → Type 0
ArePutting inodes (Alone inode) f calls = calls ≡ making_calls f.name f.content
ArePutting inodes (Packed inode from size) f calls =
    (IsThere inodes pack_name × (calls ≡ Append pack_name (member_octets f) ∷ []))
    ⊎ ((¬ (IsThere inodes pack_name)) × (calls ≡ making_calls pack_name (member_octets f)))

-- the file was put at this place
pub record PutsAt (inodes : ℕ) (at : ChangePlace) (f : File) (old new : List Octets) : Type 0 where
  pub calls : List FileCall
  pub putting : ArePutting (table inodes old) at f calls
  pub made : Calls inodes calls old new
  pub there : IsAt (table inodes new) at f
  pub others : SameFilesBut inodes (inode_at at) old new

-- the most blocks that change when a file of this many octets is put, beside those of the bitmap
abbrev pub touched_by_put : ℕ → ℕ
touched_by_put size = content_blocks size + 7

-- none of the pieces is for the pack
abbrev pub AreNotPacked : List (Option File) → List Piece → Type 0
AreNotPacked inodes pieces = (k : ℕ) (p : Piece) → slice_get pieces k ≡ Some p → name_of inodes p.at ≢ Some pack_name
