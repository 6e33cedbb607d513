-- Why the system refused a call to a file, by the kind and the number of its error, and what is said of it.
use Rattle.std.specs.Prelude.{ℤ, pos, int_lt, unsigned_abs, Option, None, Some, List, ℕ, codes, if◌then◌else◌, ◌==◌, ◌&&◌, not}
use Rattle.std.specs.declared.io.ErrorKind.{ErrorKind}
use Rattle.std.specs.declared.io.ErrorKind.TheVariants as kind
use Rattle.disk_causes.specs.declared.Cause.{Cause}
use Rattle.disk_causes.specs.declared.Cause.TheVariants.{NoSpace, Quota, ReadOnly, TooLarge, Io, Denied}
use Rattle.disk_causes.specs.declared.Cause.TheVariants.{Missing, Stale, Short, Replaced, Other}

-- what the kind says; any other one says nothing
abbrev pub by_kind : ErrorKind → Cause
by_kind kind.StorageFull = NoSpace
by_kind kind.QuotaExceeded = Quota
by_kind kind.ReadOnlyFilesystem = ReadOnly
by_kind kind.FileTooLarge = TooLarge
by_kind kind.PermissionDenied = Denied
by_kind kind.NotFound = Missing
by_kind kind.StaleNetworkFileHandle = Stale
by_kind kind.UnexpectedEof = Short
by_kind _ = Other

-- 5 is the number of an error of input or output in Linux
abbrev pub by_number : Option ℤ → Cause
by_number None = Other
by_number (Some number) = if not (int_lt number (pos 0)) && unsigned_abs number == 5 then Io else Other

-- what the kind says, and where it says nothing what the number says
abbrev pub known_or : Cause → Cause → Cause
known_or Other number = number
known_or cause _ = cause

abbrev pub cause_of : ErrorKind → Option ℤ → Cause
cause_of kind number = known_or (by_kind kind) (by_number number)

-- the words of a cause
abbrev pub words_of : Cause → List ℕ
words_of NoSpace = codes "no space left on the file system"
words_of Quota = codes "no space left within the quota"
words_of ReadOnly = codes "the file system is read-only"
words_of TooLarge = codes "the file may not grow so large"
words_of Io = codes "I/O error"
words_of Denied = codes "permission denied"
words_of Missing = codes "the file isn't there"
words_of Stale = codes "the file's server no longer has it"
words_of Short = codes "the file is too short"
words_of Replaced = codes "the file was replaced, moved, removed, cut or changed by another"
words_of Other = codes "the device failed"

-- its name
abbrev pub name_of : Cause → List ℕ
name_of NoSpace = codes "nospace"
name_of Quota = codes "quota"
name_of ReadOnly = codes "readonly"
name_of TooLarge = codes "toolarge"
name_of Io = codes "io"
name_of Denied = codes "denied"
name_of Missing = codes "missing"
name_of Stale = codes "stale"
name_of Short = codes "short"
name_of Replaced = codes "replaced"
name_of Other = codes "other"
