-- Whether a file was written since a moment.
use Rattle.std.specs.Prelude.{◌≡◌, Option, None, Some}
use Rattle.disk_file.specs.declared.standing.Stamp.{Stamp}

-- the last write was at the moment that is known, if one is
abbrev pub IsAsLeft : Option Stamp → Stamp → Type 0
IsAsLeft (Some stamp) written = stamp ≡ written
IsAsLeft None written = Unit {0}
