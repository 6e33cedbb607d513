-- The lines of these commands.
use Rattle.std.specs.Prelude.{ℕ, ◌+◌, ◌-◌, [], ◌∷◌, codes, decimal, max, min, nat_lt, if◌then◌else◌, Option, Some, None}
use Rattle.model.specs.Stream.{Octets, line}
use Rattle.model.specs.Answer.{spaced}
use Rattle.model.specs.declared.command.Range.{Range}
use Rattle.model.specs.declared.command.Part.{Part}
use Rattle.model.specs.declared.command.Part.TheVariants as part

-- the code of a reply with this part of an article
abbrev pub code_of : Part → Octets
code_of part.Whole = codes "220"
code_of part.Head = codes "221"
code_of part.Body = codes "222"
code_of part.Nothing = codes "223"

-- `code number id`
abbrev pub found_line : Octets → ℕ → Octets → Octets
found_line code number id = line (spaced (code ∷ decimal number ∷ id ∷ []))

-- `211 count low high name`
abbrev pub counted : ℕ → ℕ → Octets → Octets
counted low high name = spaced (codes "211" ∷ decimal (high + 1 - low) ∷ decimal low ∷ decimal high ∷ name ∷ [])

-- the current number, unless it is below the lowest
abbrev pub current_of : Option ℕ → ℕ → Option ℕ
current_of None low = None
current_of (Some n) low = if nat_lt n low then None else Some n

-- the numbers of a range that are in a group: the first one, the last one, and how many there are
abbrev pub first_in : Range → ℕ → ℕ
first_in r low = max r.first low

abbrev pub last_in : Option ℕ → ℕ → ℕ
last_in None high = high
last_in (Some last) high = min last high

abbrev pub count_in : Range → ℕ → ℕ → ℕ
count_in r low high = last_in r.last high + 1 - first_in r low
