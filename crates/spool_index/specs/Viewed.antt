-- A place as the definitions have it.
use Rattle.model.specs.Indexed as indexed
use Rattle.spool_index.specs.declared.places.ChangePlace.{ChangePlace}
use Rattle.spool_index.specs.declared.places.ChangePlace.TheVariants.{Alone, Packed}

abbrev pub place_of : ChangePlace → indexed.ChangePlace
place_of (Alone inode) = indexed.Alone inode
place_of (Packed inode from size) = indexed.Packed inode from size
