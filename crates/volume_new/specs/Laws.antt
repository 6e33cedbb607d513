-- An image stands for some spool.
use Rattle.std.specs.Prelude.{IsTrue, []}
use Rattle.model.specs.Layout.{Stands}
use Rattle.model.specs.Names.{is_host}
use Rattle.model.specs.Stream.{Octets}

-- Under each host an image stands for the spool without changes.
abbrev pub EachHostHasAnImage : Type 0
EachHostHasAnImage = (host : Octets) → IsTrue (is_host host) → (image : Octets) × Stands host image []

-- So there is an image that stands for a spool.
abbrev pub AnImageStands : Type 0
AnImageStands = (host : Octets) × (image : Octets) × Stands host image []
