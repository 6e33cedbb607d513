-- What an error of a stream means to the program.
use Rattle.std.specs.Prelude.{Bool, true, false, if◌then◌else◌}
use Rattle.std.specs.IoError.{error_kind}
use Rattle.std.specs.declared.io.Error.{Error}
use Rattle.std.specs.declared.io.ErrorKind.{ErrorKind}
use Rattle.std.specs.declared.io.ErrorKind.TheVariants.{OutOfMemory}
use Rattle.program_printing.specs.declared.errors.CommandError.{CommandError}
use Rattle.program_printing.specs.declared.errors.CommandError.TheVariants as command
use Rattle.program_printing.specs.declared.failure.Failure.{Failure}
use Rattle.program_printing.specs.declared.failure.Failure.TheVariants as failure

abbrev pub is_memory : ErrorKind → Bool
is_memory OutOfMemory = true
is_memory _ = false

-- a stream error for want of memory counts as any refusal of memory
abbrev pub failure_of : Error → Failure
failure_of error = if is_memory (error_kind error) then failure.Memory else failure.Stream error

-- the same for a command over a volume
abbrev pub command_error_of : Error → CommandError
command_error_of error = if is_memory (error_kind error) then command.Memory else command.Stream error
