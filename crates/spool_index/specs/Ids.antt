-- The serials of articles by their message-ids, which stand in the notes alone.
use Rattle.std.specs.Prelude.{◌≡◌, ◌⊎◌, ◌≤◌, ◌+◌, ◌*◌, ◌%◌, ◌^◌, if◌then◌else◌, ℕ, Bool, false, List, Option, None, Some, IfSome}
use Rattle.std.specs.Prelude.{bytes_eq}
use Rattle.std.specs.List.{fold}
use Rattle.std.specs.Map.{lookup}
use Rattle.std.specs.Option.{option_and_then}
use Rattle.std.specs.Ordering.{is_eq, nat_cmp}
use Rattle.model.specs.Stream.{Octets}
use Rattle.model.specs.Indexed.{value_of}
use Rattle.spool_index.specs.Finding.{note_at}
use Rattle.spool_index.specs.Notes.{id_in}
use Rattle.spool_index.specs.declared.note.Note.{Note}

-- a number of eight octets that is computed from an id; other ids may have it too
unfoldable pub fingerprint : Octets → ℕ
fingerprint id = fold (λ print octet. (print * 11400714819323198485 % 2 ^ 64 + octet) % 2 ^ 64) 0 id

-- these are one fingerprint, by the order of a map's keys
abbrev pub is_same : ℕ → ℕ → Bool
is_same print other = is_eq (nat_cmp print other)

-- the serial under a fingerprint
abbrev pub serial_under : List (ℕ × ℕ) → ℕ → Option ℕ
serial_under entries print = lookup (is_same print) entries

-- serials by the fingerprints of their ids, and those of the other ids by the ids themselves
pub record IdsView : Type 0 where
  pub prints : List (ℕ × ℕ)
  pub others : List (Octets × ℕ)

-- this is the id, if there is one
abbrev pub is_id : Octets → Option Octets → Bool
is_id wanted None = false
is_id wanted (Some id) = bytes_eq id wanted

-- the change with this serial is an article with this id
abbrev pub has_id_at : List Note → Octets → ℕ → Bool
has_id_at notes wanted serial = is_id wanted (option_and_then id_in (note_at notes serial))

-- the serial that was found under the id's fingerprint, if the id is its, or else the one among the others
abbrev pub serial_of_either : List Note → Octets → Option ℕ → Option ℕ → Option ℕ
serial_of_either notes wanted None other = other
serial_of_either notes wanted (Some serial) other = if has_id_at notes wanted serial then Some serial else other

abbrev pub serial_with : IdsView → List Note → Octets → Option ℕ
serial_with x notes wanted = serial_of_either notes wanted (serial_under x.prints (fingerprint wanted)) (value_of x.others wanted)

-- no fingerprint has the serial of a change after this many
abbrev pub AreUpTo : ℕ → IdsView → Type 0
AreUpTo count x = (print : ℕ) → IfSome (serial_under x.prints print) (λ serial. serial ≤ count)

-- the id has a new fingerprint, under which its serial now stands
pub record IsPrinted (id : Octets) (serial : ℕ) (x y : IdsView) : Type 0 where
  pub fresh : serial_under x.prints (fingerprint id) ≡ None
  pub prints : (print : ℕ) → serial_under y.prints print
      ≡ (if is_same (fingerprint id) print then Some serial else serial_under x.prints print)
  pub others : y.others ≡ x.others

-- its serial now stands under the id itself
pub record IsKeyed (id : Octets) (serial : ℕ) (x y : IdsView) : Type 0 where
  pub prints : y.prints ≡ x.prints
  pub others : (wanted : Octets) → value_of y.others wanted ≡ (if bytes_eq wanted id then Some serial else value_of x.others wanted)

abbrev pub IsAdded : Octets → ℕ → IdsView → IdsView → Type 0
IsAdded id serial x y = IsPrinted id serial x y ⊎ IsKeyed id serial x y
