-- The numbers by which threads share a cause: each cause has one of its own, and 0 is that of none.
use Rattle.std.specs.Prelude.{ℕ, ◌≢◌}
use Rattle.disk_causes.specs.declared.Cause.{Cause}
use Rattle.disk_causes.specs.declared.Cause.TheVariants.{NoSpace, Quota, ReadOnly, TooLarge, Io, Denied}
use Rattle.disk_causes.specs.declared.Cause.TheVariants.{Missing, Stale, Short, Replaced, Other}

abbrev pub code_of : Cause → ℕ
code_of NoSpace = 1
code_of Quota = 2
code_of ReadOnly = 3
code_of TooLarge = 4
code_of Io = 5
code_of Denied = 6
code_of Missing = 7
code_of Stale = 8
code_of Short = 9
code_of Other = 10
code_of Replaced = 11

-- no cause has this number
abbrev pub HasNoCode : ℕ → Type 0
HasNoCode code = (cause : Cause) → code ≢ code_of cause
