-- An article is filed in the index of its groups.
use Rattle.std.specs.Prelude.{◌≡◌, ℕ, zero, suc, ◌+◌, ◌<◌, ◌≤◌, if◌then◌else◌, List, [], ◌∷◌, ◌++◌, length, slice_get, slice_index}
use Rattle.std.specs.Prelude.{slice_index_or, Some, bytes_eq, vec_len, vec_capacity}
use Rattle.model.specs.Stream.{Octets}
use Rattle.model.specs.Indexed.{GroupIndex, line_start, value_of}
use Rattle.model.specs.Spool.{Spool}
use Rattle.model.specs.FileCalls.{next_line}
use Rattle.spool_groups.specs.declared.group.Group.{Group}

-- where the last line ends
abbrev pub end_of : GroupIndex → ℕ
end_of i = line_start i.ends (length i.ends)

-- one more line
abbrev pub with_line : ℕ → ℕ → GroupIndex → GroupIndex
with_line serial size i = record i { filed = i.filed ++ serial ∷ []; ends = i.ends ++ (end_of i + size) ∷ []; last = serial }

-- one more line in the group, if it has this name
abbrev pub filed_once : ℕ → Octets → ℕ → GroupIndex → GroupIndex
filed_once serial name size i = if bytes_eq name i.group.name then with_line serial size i else i

-- after the first of these names, this many, each with the size of its line
abbrev pub filed_by : ℕ → List Octets → List ℕ → ℕ → GroupIndex → GroupIndex
filed_by serial names sizes zero i = i
filed_by serial names sizes (suc k) i =
    filed_once serial (slice_index_or names k []) (slice_index sizes k) (filed_by serial names sizes k i)

-- the lines of this article have these sizes
abbrev pub AreLineSizes : Spool → Octets → List Octets → List ℕ → Type 0
AreLineSizes S text names sizes = (k : ℕ) → k < length names → slice_index sizes k ≡ length (next_line S text (slice_index_or names k []))

-- the group of this name has room for this many more lines
abbrev pub HasRoomFor : List (Octets × ℕ) → List Group → Octets → ℕ → Type 0
HasRoomFor places groups name more = (k : ℕ) (g : Group) → value_of places name ≡ Some k → slice_get groups k ≡ Some g
    → vec_len g.lines + more ≤ vec_capacity g.lines

-- the lines of each group end before this place
abbrev pub EndBelow : ℕ → List GroupIndex → Type 0
EndBelow limit groups = (k : ℕ) (i : GroupIndex) → slice_get groups k ≡ Some i → end_of i < limit

-- if the group has this name, its articles up to a number are removed from it
abbrev pub expired_once : ℕ → Octets → ℕ → GroupIndex → GroupIndex
expired_once serial name number i =
    if bytes_eq name i.group.name
    then record i {
      low = 1 + number;
      expired = i.expired ++ record { serial = serial; group = i.group.name; number = number } ∷ [];
      last = serial;
    }
    else i
