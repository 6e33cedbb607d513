-- Where the file of an article goes as it is filed.
use Rattle.std.specs.Prelude.{ℕ, ◌||◌, nat_lt, if◌then◌else◌, length}
use Rattle.model.specs.Stream.{Octets}
use Rattle.spool_growing.specs.declared.putting.PlaceKind.{PlaceKind}
use Rattle.spool_growing.specs.declared.putting.PlaceKind.TheVariants.{Alone, Packed}

-- a text of at most 32,768 octets goes into the pack, in a volume of 2,048 inodes or more
abbrev pub kind_for : ℕ → Octets → PlaceKind
kind_for inodes text = if nat_lt inodes 2_048 || nat_lt 32_768 (length text) then Alone else Packed
