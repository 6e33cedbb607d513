-- The lines of consecutive numbers, which are made as they are handed out.
use Rattle.std.specs.Prelude.{ℕ, ◌+◌, List, [], ◌∷◌, ◌++◌, decimal, flat_map, Option, Some, None}
use Rattle.std.specs.List.{range_with_len}
use Rattle.kernel_outbox.specs.declared.number_lines.Numbers.{Numbers}

-- a number in decimal digits, and CRLF
abbrev pub number_line : ℕ → List ℕ
number_line n = decimal n ++ (13 ∷ 10 ∷ [])

abbrev pub number_lines : ℕ → ℕ → List ℕ
number_lines from count = flat_map number_line (range_with_len from count)

-- a dot and CRLF, which end a block
abbrev pub last_line : List ℕ
last_line = 46 ∷ 13 ∷ 10 ∷ []

-- what is still to be made
abbrev pub rest_of : Option Numbers → List ℕ
rest_of None = []
rest_of (Some numbers) = number_lines numbers.next numbers.left ++ last_line

-- at most how often something is made of it
abbrev pub rest_steps : Option Numbers → ℕ
rest_steps None = 0
rest_steps (Some numbers) = numbers.left + 1
