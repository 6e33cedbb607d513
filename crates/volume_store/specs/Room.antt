-- What a volume has too little of for a change, whatever its groups hold.
use Rattle.std.specs.Prelude.{ℕ, if◌then◌else◌, nat_lt, Option, Some, None}
use Rattle.model.specs.Room.{blocks_asked, blocks_for_change, files_made, inodes_for_change}
use Rattle.model.specs.declared.change.Change.{Change}
use Rattle.spool.specs.View.{SpoolView}
use Rattle.volume_store.specs.declared.outcome.Lack.{Lack}
use Rattle.volume_store.specs.declared.outcome.Lack.TheVariants.{Blocks, Inodes}

-- where so many blocks and inodes are free for a change that makes this many files: fewer blocks than a change asks for, or otherwise
-- fewer inodes than files
abbrev pub first_lack : ℕ → ℕ → ℕ → Option Lack
first_lack blocks inodes files = if nat_lt blocks blocks_asked then Some Blocks else if nat_lt inodes files then Some Inodes else None

-- what is lacking for a change
abbrev pub lack_for : SpoolView → Change → Option Lack
lack_for s c = first_lack (blocks_for_change s.blocks c) (inodes_for_change s.blocks s.inodes c) (files_made c)
