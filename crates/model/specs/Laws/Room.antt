-- What a spool's files leave free, and what a change asks for.
use Rattle.std.specs.Prelude.{◌≡◌, ℕ, ◌+◌, ◌≤◌, false, List, Some, length}
use Rattle.std.specs.List.{Contains, sum_by}
use Rattle.model.specs.Stream.{Octets}
use Rattle.model.specs.Files.{File, HasRoom, HoldsFiles, free_blocks, free_inodes, largest_file}
use Rattle.model.specs.Lawful.{IsLawful, MayFollow}
use Rattle.model.specs.Packs.{most_changes}
use Rattle.model.specs.Records.{largest_record}
use Rattle.model.specs.Asked.{blocks_changed, blocks_for_more, blocks_taken}
use Rattle.model.specs.Room.{blocks_for, files_made, free_blocks_beside}
use Rattle.model.specs.Asked.{most_changed}
use Rattle.model.specs.Room.{free_inodes_beside, is_full}
use Rattle.model.specs.Spool.{Spool}
use Rattle.model.specs.FileCalls.{change_calls, next_line, next_record}
use Rattle.model.specs.SpoolFiles.{change_file, numbers_file, overview_file}
use Rattle.model.specs.declared.change.Change.{Change}
use Rattle.model.specs.declared.change.Change.TheVariants.{Article}
use Rattle.model.specs.declared.change.Filing.{Filing}

pub record IsBeside (inodes : ℕ) (blocks : List Octets) (files : List File) : Type 0 where
  pub blocks_are : free_blocks blocks ≡ free_blocks_beside (length blocks) inodes files
  pub inodes_are : free_inodes inodes blocks ≡ free_inodes_beside inodes files

-- The blocks and the inodes that are free are those that the files leave.
abbrev pub FreeIsBeside : Type 0
FreeIsBeside = (inodes : ℕ) (blocks : List Octets) (files : List File) → HasRoom inodes blocks → HoldsFiles inodes blocks files
    → IsBeside inodes blocks files

-- A file that gets this many more octets takes at most one block for each 4,096 of them, and the blocks that point to these.
abbrev pub FilesGrowByBlocks : Type 0
FilesGrowByBlocks = (size more : ℕ) → blocks_for (size + more) ≤ blocks_for size + blocks_for_more more

-- a change asks for few blocks, and each file that it makes or extends gets few octets
pub record AsksFew (S : Spool) (c : Change) : Type 0 where
  -- 67 for an article and 7 for each of its groups
  pub blocks : sum_by blocks_taken (change_calls S c) ≤ 179
  pub made : length (change_file (record { serial = length S + 1; change = c })).content ≤ largest_record
  -- fewer than the 12,288 octets that the overview has room for
  pub lines : (f : Filing) (g : Octets) → c ≡ Article f → length (next_line S f.text g) ≤ 8_191
  -- so one change alters few blocks
  pub changed : blocks_changed S c ≤ most_changed

-- What a change asks for is within what was free before it.
abbrev pub ChangesAskFew : Type 0
ChangesAskFew = (host : Octets) (S : Spool) (c : Change) → length S ≤ most_changes → IsLawful host S → MayFollow host S c → AsksFew S c

-- a change finds all the room that its calls ask for
pub record HasRoomForChange (blocks : List Octets) (inodes : ℕ) (S : Spool) (c : Change) : Type 0 where
  pub blocks_enough : sum_by blocks_taken (change_calls S c) ≤ free_blocks blocks
  pub inodes_enough : files_made c ≤ free_inodes inodes blocks
  pub sizes : (f : Filing) (g : Octets) → c ≡ Article f → Contains f.envelope.groups g →
      (length (numbers_file S g) + length (next_record S f.text g) ≤ largest_file)
      × (length (overview_file S g) + length (next_line S f.text g) ≤ largest_file)

-- So if the spool is not full, none of a change's calls meets a full file system.
abbrev pub NotFullHasRoom : Type 0
NotFullHasRoom = (host : Octets) (blocks : List Octets) (inodes : ℕ) (S : Spool) (c : Change) → length S ≤ most_changes → IsLawful host S
    → MayFollow host S c → is_full blocks inodes S (Some c) ≡ false → HasRoomForChange blocks inodes S c
