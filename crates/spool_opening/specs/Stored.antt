-- What was found of a spool in the files of blocks.
use Rattle.std.specs.Prelude.{◌≡◌, Option, ℕ, ◌+◌, take, drop, length, slice_get, List, [], ◌∷◌, ◌++◌, Some, IsTrue}
use Rattle.model.specs.Stream.{Octets}
use Rattle.model.specs.Files.{File, files_in, table}
use Rattle.model.specs.Lawful.{IsLawful, MayFollow}
use Rattle.model.specs.Spool.{Spool, first, is_here}
use Rattle.model.specs.FileCalls.{next_line, next_record}
use Rattle.model.specs.FileKinds.{HasRoomInFile}
use Rattle.model.specs.Packs.{IsStored}
use Rattle.model.specs.SpoolFiles.{change_file, numbers_file, numbers_name, overview_file}
use Rattle.model.specs.SpoolFiles.{overview_name}
use Rattle.model.specs.declared.change.Change.{Change}
pub use Rattle.fs_layout.specs.Table.{IsFileAt}

-- ---- the numbers and the overview of a group

pub data Which : Type 0 where
  Numbers : Which
  Overview : Which

abbrev pub name_for : Which → Octets → Octets
name_for Numbers g = numbers_name g
name_for Overview g = overview_name g

abbrev pub file_for : Which → Spool → Octets → Octets
file_for Numbers S g = numbers_file S g
file_for Overview S g = overview_file S g

-- what an article adds to this file
abbrev pub piece_for : Which → Spool → Octets → Octets → Octets
piece_for Numbers S text g = next_record S text g
piece_for Overview S text g = next_line S text g

-- a file of this name begins with these octets
pub record HasFront (inodes : List (Option File)) (name octets : Octets) : Type 0 where
  pub place : ℕ
  pub content : Octets
  pub there : IsFileAt inodes place name content
  pub front : take (length octets) content ≡ octets

-- a file of this name has these octets at this place
pub record HasPiece (inodes : List (Option File)) (name : Octets) (after : ℕ) (piece : Octets) : Type 0 where
  pub place : ℕ
  pub content : Octets
  pub there : IsFileAt inodes place name content
  pub piece_is : take (length piece) (drop after content) ≡ piece

-- ---- the changes

-- these changes are lawful, each has its file in the blocks, by itself or in the pack, and the numbers and the overview of each group begin
-- as these changes say
pub record AreRead (host : Octets) (inodes : ℕ) (blocks : List Octets) (R : Spool) : Type 0 where
  pub lawful : IsLawful host R
  pub changes : (n : ℕ) (c : Change) → slice_get R n ≡ Some c
      → HasRoomInFile (n + 1) c × IsStored (files_in (table inodes blocks)) (change_file (record { serial = n + 1; change = c }))
  pub fronts : (w : Which) (g : Octets) → IsTrue (is_here R g) → HasFront (table inodes blocks) (name_for w g) (file_for w R g)

-- the next change of a spool that begins with these
pub record NextIs (host : Octets) (inodes : ℕ) (blocks : List Octets) (R S : Spool) : Type 0 where
  pub change : Change
  pub may : MayFollow host R change
  pub room : HasRoomInFile (length R + 1) change
  pub there : IsStored (files_in (table inodes blocks)) (change_file (record { serial = length R + 1; change = change }))
  pub front : R ++ change ∷ [] ≡ first S (length R + 1)

-- this is the next change of a spool that begins with these
pub record IsNext (host : Octets) (R S : Spool) (c : Change) : Type 0 where
  pub may : MayFollow host R c
  pub front : R ++ c ∷ [] ≡ first S (length R + 1)
