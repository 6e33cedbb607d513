-- Look-ups of changes and articles by serial.
use Rattle.std.specs.Prelude.{ℕ, zero, suc, nat_le, Bool, List, filter, length, slice_get, Option, None}
use Rattle.model.specs.Stream.{Octets}
use Rattle.model.specs.Spool.{Spool, SpoolEntry, entries, filed_in, low}
use Rattle.spool_index.specs.declared.note.Note.{Note}

-- the note of the change with this serial
abbrev pub note_at : List Note → ℕ → Option Note
note_at notes zero = None
note_at notes (suc k) = slice_get notes k

-- the change with this serial
abbrev pub entry_with : Spool → ℕ → Option SpoolEntry
entry_with S zero = None
entry_with S (suc k) = slice_get (entries S) k

-- the number of articles up to this serial that were filed in the group, which is the number of the last of them
abbrev pub number_upto : Spool → Octets → ℕ → ℕ
number_upto S g serial = length (filter (λ b. nat_le b.serial serial) (filed_in S g))

-- the article with this serial, which was filed in the group, is still in it
abbrev pub is_still_in : Spool → ℕ → Octets → Bool
is_still_in S serial g = nat_le (low S g) (number_upto S g serial)
