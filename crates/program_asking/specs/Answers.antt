-- The line that a running server is asked, and which lines of its answer are refusals (docs/FORMATS.md, "The control socket").
use Rattle.std.specs.Prelude.{Bool, false, [], ◌∷◌, ◌==◌, ◌&&◌, option_map, unwrap_or}
use Rattle.std.specs.Char.{is_ascii_digit}
use Rattle.model.specs.Names.{is_run_of}
use Rattle.model.specs.Stream.{Octets}
use Rattle.program_script.specs.Words.{split_word}

-- `E`, and one or more digits
abbrev pub is_number : Octets → Bool
is_number [] = false
is_number (first ∷ digits) = first == 69 && is_run_of is_ascii_digit digits

-- the number of a refusal, SP, and more
abbrev pub is_refusal : Octets → Bool
is_refusal line = unwrap_or (option_map (λ parts. is_number parts.0) (split_word line)) false
