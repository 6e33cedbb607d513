-- A reply that is made as it is handed out.
use Rattle.std.specs.Prelude.{ℕ, ◌+◌, ◌^◌, ◌<◌, ◌≤◌, List, [], ◌++◌, length, drop, min, Option, Some, None}
use Rattle.kernel_outbox.specs.Lines.{Reply, size}
use Rattle.kernel_outbox.specs.Numbers.{last_line, number_lines}
use Rattle.kernel_outbox.specs.declared.made_lines.Lines.{Lines}
use Rattle.kernel_outbox.specs.declared.outgoing.Rest.{Rest}
use Rattle.kernel_outbox.specs.declared.outgoing.Rest.TheVariants as rest

-- the octets that are still to be made of numbers
abbrev pub numbers_in : Rest → List ℕ
numbers_in rest.Nothing = []
numbers_in (rest.Numbers numbers) = number_lines numbers.next numbers.left ++ last_line
numbers_in (rest.Lines lines) = []

-- the lines that a source is still to make
abbrev pub lines_in : Rest → Option Lines
lines_in rest.Nothing = None
lines_in (rest.Numbers numbers) = None
lines_in (rest.Lines lines) = Some lines

-- the octets from the first that wasn't handed out, and what is still to be made
abbrev pub outgoing : List ℕ → ℕ → Rest → Reply
outgoing octets start rest = record { octets = drop start octets ++ numbers_in rest; lines = lines_in rest }

-- what is still to be made can be made without taking memory, of so many octets in all
abbrev pub CanBeMade : ℕ → ℕ → Rest → Type 0
CanBeMade capacity all rest.Nothing = Unit {0}
CanBeMade capacity all (rest.Numbers numbers) =
    (1 ≤ numbers.next) × (numbers.next + numbers.left ≤ 2 ^ 64) × (min all 66_947 ≤ capacity)
CanBeMade capacity all (rest.Lines lines) = min all 73_729 ≤ capacity

-- made octets with this capacity, and what is still to be made
pub record IsSound (capacity : ℕ) (octets : List ℕ) (start : ℕ) (rest : Rest) : Type 0 where
  pub within : start ≤ length octets
  pub short : size (outgoing octets start rest) < 2 ^ 63
  pub room : CanBeMade capacity (size (outgoing octets start rest)) rest

-- more octets are made than a release hands out, or all
abbrev pub IsStocked : List ℕ → ℕ → Rest → Type 0
IsStocked octets start rest.Nothing = Unit {0}
IsStocked octets start (rest.Numbers numbers) = start + 65_536 < length octets
IsStocked octets start (rest.Lines lines) = start + 65_536 < length octets
