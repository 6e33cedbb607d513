-- Why the system does not open a file.
use Rattle.std.specs.declared.io.ErrorKind.{ErrorKind}
use Rattle.std.specs.declared.io.ErrorKind.TheVariants.{NotFound}
use Rattle.disk_file.specs.declared.file_refusals.FileError.{FileError}
use Rattle.disk_file.specs.declared.file_refusals.FileError.TheVariants.{Missing, Refused}

-- a file that isn't found is missing; any other kind is what the system said
abbrev pub refusal_of : ErrorKind → FileError
refusal_of NotFound = Missing
refusal_of kind = Refused kind
