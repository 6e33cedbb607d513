-- The status with which the program ends.
use Rattle.std.specs.Prelude.{ℕ}
use Rattle.program_printing.specs.declared.failure.Failure.{Failure}
use Rattle.program_printing.specs.declared.failure.Failure.TheVariants.{Memory, Bad, BadWord, NotOpened, BadEvent, Command, Stream}

-- 2 if an event was not understood, else 1
abbrev pub status_of : Failure → ℕ
status_of (BadEvent line) = 2
status_of Memory = 1
status_of Bad = 1
status_of (BadWord text) = 1
status_of (NotOpened error) = 1
status_of (Stream error) = 1
status_of (Command error) = 1
