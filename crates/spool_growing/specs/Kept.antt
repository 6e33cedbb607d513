-- Blocks that hold the changes of a host, with their index and the places of their files.
use Rattle.std.specs.Prelude.{◌≡◌, ℕ, IsTrue, List}
use Rattle.model.specs.Files.{HasRoom}
use Rattle.model.specs.Indexed.{ArePlaces, FilePlaces}
use Rattle.model.specs.Layout.{Holds}
use Rattle.model.specs.Names.{is_host}
use Rattle.model.specs.Spool.{Spool}
use Rattle.model.specs.Stream.{Octets}
use Rattle.spool_index.specs.View.{IndexView, Indexes}
use Rattle.journal_volume.specs.Volume.{VolumeView}

-- blocks with room for this many inodes hold these changes of a host
pub record IsHeld (host : Octets) (inodes : ℕ) (blocks : List Octets) (S : Spool) : Type 0 where
  pub named : IsTrue (is_host host)
  pub room : HasRoom inodes blocks
  pub held : Holds host inodes blocks S

-- the blocks hold these changes; index and places are theirs; nothing is staged
pub record IsKept (host : Octets) (inodes : ℕ) (volume : VolumeView) (index : IndexView) (places : FilePlaces) (S : Spool) : Type 0 where
  pub is : IsHeld host inodes volume.cache S
  pub seen : volume.seen ≡ volume.cache
  pub indexed : Indexes S index
  pub placed : ArePlaces inodes volume.cache S places
