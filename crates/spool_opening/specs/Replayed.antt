-- The changes that were replayed, with their index and the places of their files.
use Rattle.std.specs.Prelude.{◌≡◌, ◌<◌, ◌≤◌, ◌^◌, ℕ, true, List, [], length, slice_index_or, Option}
use Rattle.model.specs.Stream.{Octets}
use Rattle.model.specs.Files.{File, files_in, table}
use Rattle.model.specs.Indexed.{FilePlaces, IsAt}
use Rattle.model.specs.Packs.{IsStored, most_changes}
use Rattle.model.specs.Spool.{Spool, is_here}
use Rattle.model.specs.SpoolFiles.{overview_file}
use Rattle.model.specs.declared.change.Change.{Change}
use Rattle.model.specs.declared.change.Change.TheVariants.{Group, Article, Expire}
use Rattle.spool_index.specs.View.{IndexView, Indexes}
use Rattle.spool_index.specs.Places.{AreNamed}
use Rattle.spool_index.specs.Viewed.{place_of}
use Rattle.spool_index.specs.declared.places.ChangePlace.{ChangePlace}
use Rattle.spool_index.specs.declared.places.ChangePlace.TheVariants.{Alone, Packed}
use Rattle.spool_reading.specs.StoredChanges.{IsFileOf}
use Rattle.spool_opening.specs.Stored.{AreRead, HasPiece, Which, file_for, name_for, piece_for}

pub record IsReplayed (host : Octets) (inodes : ℕ) (blocks : List Octets) (index : IndexView) (places : FilePlaces)
    (R : Spool) : Type 0 where
  pub read : AreRead host inodes blocks R
  pub indexed : Indexes R index
  pub placed : AreNamed (table inodes blocks) R places

-- changes of some blocks were replayed
pub record AreReplayed (index : IndexView) (places : FilePlaces) : Type 0 where
  pub host : Octets
  pub inodes : ℕ
  pub blocks : List Octets
  pub changes : Spool
  pub replayed : IsReplayed host inodes blocks index places changes

-- changes of these blocks were replayed, and there is room for one more serial
pub record CanReplay (host : Octets) (inodes : ℕ) (blocks : List Octets) (index : IndexView) (places : FilePlaces) : Type 0 where
  pub changes : Spool
  pub replayed : IsReplayed host inodes blocks index places changes
  pub few : length changes < most_changes

-- this many changes of these blocks were replayed
pub record AreReplayedTo (host : Octets) (inodes : ℕ) (blocks : List Octets) (index : IndexView) (places : FilePlaces)
    (count : ℕ) : Type 0 where
  pub changes : Spool
  pub replayed : IsReplayed host inodes blocks index places changes
  pub count_is : length changes ≡ count

-- the file of this change with this serial is stored at this place
pub record IsItsFile (inodes : ℕ) (blocks : List Octets) (at : ChangePlace) (serial : ℕ) (c : Change) : Type 0 where
  pub name : Octets
  pub content : Octets
  pub is : IsFileOf serial c name content
  pub stored : IsStored (files_in (table inodes blocks)) (record { name = name; content = content })
  pub there : IsAt (table inodes blocks) (place_of at) (record { name = name; content = content })

-- the file of a group stands by itself
abbrev pub MayStandAt : ChangePlace → Change → Type 0
MayStandAt (Alone inode) c = Unit {0}
MayStandAt (Packed inode from size) (Group g) = ⊥
MayStandAt (Packed inode from size) (Article f) = Unit {0}
MayStandAt (Packed inode from size) (Expire e) = Unit {0}

-- the index is that of few changes, and each overview is short
pub record IsBounded (index : IndexView) : Type 0 where
  pub changes : Spool
  pub indexed : Indexes changes index
  pub few : length changes ≤ most_changes
  pub short : (g : Octets) → is_here changes g ≡ true → length (overview_file changes g) < 2 ^ 32

-- the numbers and the overviews of these groups continue with this article
abbrev pub AllGoOn : List (Option File) → Spool → Octets → List Octets → Type 0
AllGoOn inodes S text names = (k : ℕ) (w : Which) → k < length names
    → HasPiece inodes (name_for w (slice_index_or names k [])) (length (file_for w S (slice_index_or names k [])))
    (piece_for w S text (slice_index_or names k []))

-- these groups exist
abbrev pub AreHere : Spool → List Octets → Type 0
AreHere S names = (k : ℕ) → k < length names → is_here S (slice_index_or names k []) ≡ true
