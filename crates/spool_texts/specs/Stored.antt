-- What is required of blocks that changes are read from.
use Rattle.std.specs.Prelude.{◌≤◌, ℕ, List, length}
use Rattle.model.specs.Stream.{Octets}
use Rattle.model.specs.Indexed.{ArePlaces, FilePlaces}
use Rattle.model.specs.Layout.{Holds}
use Rattle.model.specs.Spool.{Spool}

-- the blocks hold some changes of a host, one of them has this serial, and the places are those of their files
pub record HasChange (inodes : ℕ) (blocks : List Octets) (places : FilePlaces) (serial : ℕ) : Type 0 where
  pub host : Octets
  pub changes : Spool
  pub held : Holds host inodes blocks changes
  pub placed : ArePlaces inodes blocks changes places
  pub from : 1 ≤ serial
  pub to : serial ≤ length changes
