-- What the volume of the measures keeps.
use Rattle.std.specs.Prelude.{List}
use Rattle.model.specs.Stream.{Octets}
use Rattle.model.specs.Files.{HasRoom, IsFileSystem}

-- these blocks are a file system of 1,024 inodes
pub record HasFiles (blocks : List Octets) : Type 0 where
  pub room : HasRoom 1024 blocks
  pub rule : IsFileSystem 1024 blocks
