-- Why a reader hands out no member.
use Rattle.std.specs.Prelude.{◌≡◌, Err}
use Rattle.text_rnews.specs.Batch.{next}
use Rattle.text_rnews.specs.Held.{Held}
use Rattle.text_rnews.specs.declared.reader.BatchError.{BatchError}
use Rattle.text_rnews.specs.declared.reader.BatchError.TheVariants.{Memory, Refused}

-- an allocation was refused, or no batch continues with what is held, whose place the refusal names
abbrev pub IsDue : Held → BatchError → Type 0
IsDue held Memory = Unit {0}
IsDue held (Refused refusal) = (next held.unread ≡ Err refusal.cause) × (refusal.place ≡ held.place)
