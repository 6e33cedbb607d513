-- What holds for batches.
use Rattle.std.specs.Prelude.{◌≡◌, ◌<◌, ◌^◌, All, List, length, map, Some, Ok, Err}
use Rattle.model.specs.Stream.{Octets}
use Rattle.text_rnews.specs.Batch.{Member, Unread, batch, fed, member, next, whole, IsReadAs}
use Rattle.text_rnews.specs.declared.rnews_batches.BatchCause.{BatchCause}

-- a text whose number of octets a header line can state
abbrev pub IsStated : Octets → Type 0
IsStated text = length text < 10 ^ 16

-- a batch is read as the texts that were written, and one that is too long as the number of its octets
abbrev pub IsReadBack : Type 0
IsReadBack = (texts : List Octets) → All IsStated texts → IsReadAs (map member texts) (whole (batch texts))

-- octets are read as at most one list of members
abbrev pub IsReadAsOne : Type 0
IsReadAsOne = (members others : List Member) (unread : Unread) → IsReadAs members unread → IsReadAs others unread → members ≡ others

-- the member found in the octets that have arrived is also the one found in all octets
abbrev pub MemberStays : Type 0
MemberStays =
    (unread later : Unread) (m : Member) (more : Octets) → next unread ≡ Ok (Some (m, later)) →
    next (fed unread more) ≡ Ok (Some (m, fed later more))

-- the cause of a refusal found in the octets that have arrived is also the one found in all octets
abbrev pub CauseStays : Type 0
CauseStays = (unread : Unread) (more : Octets) (cause : BatchCause) → next unread ≡ Err cause → next (fed unread more) ≡ Err cause
