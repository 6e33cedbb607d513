-- One more change, in all that a spool keeps.
use Rattle.std.specs.Prelude.{◌≡◌, ◌⊎◌, ◌↔◌, ℕ, ◌+◌, ◌≤◌, false, List, [], ◌∷◌, ◌++◌, length, map, Some}
use Rattle.std.specs.List.{Contains}
use Rattle.model.specs.Files.{File, HasRoom, IsFileSystem, bitmap_blocks, files_in, free_blocks, free_inodes, table}
use Rattle.model.specs.Indexed.{ChangePlace}
use Rattle.model.specs.Lawful.{MayFollow}
use Rattle.model.specs.Room.{files_made, is_full}
use Rattle.model.specs.Spool.{Spool}
use Rattle.model.specs.FileCalls.{FileCall, Create, making_calls}
use Rattle.model.specs.SpoolFiles.{group_name, numbers_name, overview_name}
use Rattle.model.specs.Stream.{Octets}
use Rattle.model.specs.Volume.{AreDistinct}
use Rattle.model.specs.declared.change.Change.{Change}
use Rattle.model.specs.declared.change.Change.TheVariants as change
use Rattle.fs.specs.Calls.{IsThere}
use Rattle.fs.specs.Touches.{Touches}
use Rattle.spool_growing.specs.declared.file_calls.Free.{Free}
use Rattle.spool_growing.specs.declared.file_calls.Piece.{Piece}
use Rattle.spool_growing.specs.declared.kept.Kept.{Kept}
use Rattle.spool_growing.specs.declared.kept.NewChange.{NewChange}
use Rattle.spool_growing.specs.declared.kept.NewChange.TheVariants as new
use Rattle.spool_growing.specs.Calls.{AreUsed, Calls, IsKnown, append_call}
use Rattle.spool_index.specs.Places.{name_of}
use Rattle.journal_volume.specs.Volume.{Differs, VolumeView}
use Rattle.spool_growing.specs.Kept.{IsKept}
use Rattle.spool_growing.specs.Putting.{PutsAt}

-- ---- files

-- the calls that make the files of a group with this record
abbrev pub group_calls : Octets → Octets → List FileCall
group_calls name octets = making_calls (group_name name) octets ++ Create (numbers_name name) ∷ Create (overview_name name) ∷ []

-- no file has one of a group's names
pub record LacksGroup (inodes : ℕ) (blocks : List Octets) (name : Octets) : Type 0 where
  pub group : ¬ (IsThere (table inodes blocks) (group_name name))
  pub numbers : ¬ (IsThere (table inodes blocks) (numbers_name name))
  pub overview : ¬ (IsThere (table inodes blocks) (overview_name name))

-- this many blocks and inodes are free
pub record HasFree (inodes files : ℕ) (blocks : List Octets) : Type 0 where
  pub inodes_free : length (files_in (table inodes blocks)) + files ≤ inodes
  pub blocks_free : 256 ≤ free_blocks blocks

-- a group's files were made in these inodes
pub record MakesGroup (inodes at numbers overview : ℕ) (name octets : Octets) (old new : List Octets) : Type 0 where
  pub calls : Calls inodes (group_calls name octets) old new
  pub group : name_of (table inodes new) at ≡ Some (group_name name)
  pub first : name_of (table inodes new) numbers ≡ Some (numbers_name name)
  pub second : name_of (table inodes new) overview ≡ Some (overview_name name)
  pub used : AreUsed overview (table inodes new)

-- ---- the whole

-- there are as many blocks as before. The dirty ones are those that were dirty and those whose octets changed, none of
-- them twice; a change dirties at most 254 and those of the bitmap
pub record Dirties (old new : List Octets) (before after : List ℕ) : Type 0 where
  pub size : length new ≡ length old
  pub exactly : (k : ℕ) → Contains after k ↔ (Contains before k ⊎ Differs old new k)
  pub distinct : AreDistinct after
  pub few : length after ≤ length before + (254 + bitmap_blocks (length old))

-- the change that is to be added
abbrev pub change_of : NewChange → Change
change_of (new.Group group) = change.Group group
change_of (new.Article kind article envelope) = change.Article (record { text = article.now; envelope = envelope.now })
change_of (new.Expiry name number) = change.Expire (record { group = name.now; number = number })

-- the blocks hold changes that this one may follow, there is room for it, and what is free is known
pub record IsReady (k : Kept) (c : Change) : Type 0 where
  pub host : Octets
  pub changes : Spool
  pub kept : IsKept host k.inodes k.volume k.index k.places changes
  pub may : MayFollow host changes c
  pub room : is_full k.volume.cache k.inodes changes (Some c) ≡ false
  pub known : IsKnown k.inodes k.free k.volume.cache

-- If the blocks held changes that this one may follow, they now hold those and then this one. It took no more inodes than it has files.
-- What is free is known.
pub record IsGrown (k l : Kept) (c : Change) : Type 0 where
  pub inodes : l.inodes ≡ k.inodes
  pub kept : (host : Octets) (S : Spool) → IsKept host k.inodes k.volume k.index k.places S → MayFollow host S c
      → IsKept host l.inodes l.volume l.index l.places (S ++ c ∷ [])
  pub free : HasRoom k.inodes k.volume.cache → IsFileSystem k.inodes k.volume.cache
      → free_inodes k.inodes k.volume.cache ≤ free_inodes l.inodes l.volume.cache + files_made c
  pub dirties : Dirties k.volume.cache l.volume.cache k.volume.dirty l.volume.dirty
  pub known : IsKnown l.inodes l.free l.volume.cache

-- ---- before the stage is applied

-- what is not on the stage: the blocks as they were, and which of them are dirty
abbrev pub unstaged : VolumeView → List Octets × List ℕ
unstaged v = (v.cache, v.dirty)

-- the volume once the stage is applied, whatever is dirty then
abbrev pub applied : VolumeView → VolumeView
applied v = record v { cache = v.seen }

-- the stage alone changed
pub record OnlyStages (k m : Kept) : Type 0 where
  pub inodes : m.inodes ≡ k.inodes
  pub free : m.free ≡ k.free
  pub index : m.index ≡ k.index
  pub places : m.places ≡ k.places
  pub volume : unstaged m.volume ≡ unstaged k.volume

-- with the stage, at most 254 blocks and those of the bitmap differ, and what is free is known
pub record IsOnStage (k m : Kept) (next : Free) : Type 0 where
  pub inodes : m.inodes ≡ k.inodes
  pub volume : unstaged m.volume ≡ unstaged k.volume
  pub count : length m.volume.seen ≡ length k.volume.seen
  pub touches : Touches 254 k.volume.seen m.volume.seen
  pub known : IsKnown k.inodes next m.volume.seen

-- the blocks with the stage, the index and the places are those of one change more
pub record IsStaged (k m : Kept) (next : Free) (c : Change) : Type 0 where
  pub stage : IsOnStage k m next
  pub kept : (host : Octets) (S : Spool) → IsKept host k.inodes k.volume k.index k.places S → MayFollow host S c
      → IsKept host k.inodes (applied m.volume) m.index m.places (S ++ c ∷ [])
  pub free : HasRoom k.inodes k.volume.seen → IsFileSystem k.inodes k.volume.seen
      → free_inodes k.inodes k.volume.seen ≤ free_inodes k.inodes m.volume.seen + files_made c

-- ---- an article

-- its file was put at this place, and then these pieces were appended to their files
pub record FilesArticle (inodes : ℕ) (at : ChangePlace) (f : File) (pieces : List Piece) (old new : List Octets) : Type 0 where
  pub mid : List Octets
  pub puts : PutsAt inodes at f old mid
  pub calls : Calls inodes (map (append_call (table inodes old)) pieces) mid new
