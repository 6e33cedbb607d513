-- The files besides those of changes.
use Rattle.std.specs.Prelude.{◌≡◌, ◌≢◌, ℕ, ◌+◌, ◌*◌, true, false, List, length, min, slice_index_or, Option, Some, None}
use Rattle.model.specs.Stream.{Octets}
use Rattle.model.specs.Files.{File, files_in}
use Rattle.model.specs.Indexed.{ArePlaces, FilePlaces}
use Rattle.model.specs.Layout.{Holds}
use Rattle.model.specs.Packs.{pack_name}
use Rattle.model.specs.Spool.{Spool, groups, is_here}
use Rattle.model.specs.FileKinds.{is_of_change}
use Rattle.spool_index.specs.View.{IndexView, Indexes}
use Rattle.spool_opening.specs.Stored.{Which, file_for, name_for}

-- the name of the numbers or of the overview of an existing group, which have this many octets
pub record IsNameOf (S : Spool) (name : Octets) (size : ℕ) : Type 0 where
  pub which : Which
  pub group : Octets
  pub here : is_here S group ≡ true
  pub is : name ≡ name_for which group
  pub size_is : size ≡ length (file_for which S group)

-- the file of an inode belongs to a change, or is the pack, or has the name and the size of numbers or an overview
abbrev pub IsWholeAt : List (Option File) → Spool → ℕ → Type 0
IsWholeAt inodes S k = (f : File) → slice_index_or inodes k None ≡ Some f → is_of_change f ≡ false → f.name ≢ pack_name
    → IsNameOf S f.name (length f.content)

-- The files in the inodes, and as many as are packed, are as many as the changes have, and one more for the pack if there is one: each
-- change has one, and each group two more.
abbrev pub AreAsMany : List (Option File) → ℕ → Spool → Type 0
AreAsMany inodes packed S = length (files_in inodes) + packed ≡ min packed 1 + (length S + 2 * length (groups S))

-- the blocks hold some changes of the host, and these are the index and the places of the changes
pub record IsOpened (host : Octets) (inodes : ℕ) (blocks : List Octets) (index : IndexView) (places : FilePlaces) : Type 0 where
  pub changes : Spool
  pub held : Holds host inodes blocks changes
  pub indexed : Indexes changes index
  pub placed : ArePlaces inodes blocks changes places
