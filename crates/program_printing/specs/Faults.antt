-- What is said of a device that failed.
use Rattle.std.specs.Prelude.{Option, None, Some}
use Rattle.disk_causes.specs.declared.Cause.{Cause}
use Rattle.program_printing.specs.declared.errors.CommandError.{CommandError}
use Rattle.program_printing.specs.declared.errors.CommandError.TheVariants.{Fault, Failed}

-- a failure gets its cause, where it is known
abbrev pub because : CommandError → Option Cause → CommandError
because Fault (Some cause) = Failed cause
because error _ = error
