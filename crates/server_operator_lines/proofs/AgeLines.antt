-- Lines that begin as those about ages do.
use Rattle.std.proofs.Common.{◌≡◌, ℕ, Bool, ◌++◌, drop, take, sym, ◌∙◌, ap}
use Rattle.std.specs.Prelude.{Option, Some, None, Result, Ok, Err, IfOk, IfSome}
use Rattle.std.proofs.lemmas.List.{take-append-drop}
use Rattle.model.specs.Stream.{Octets}
use Rattle.server_operator_lines.specs.Ages.{IsAgesLine, ages_of, begins}
use Rattle.server_operator_lines.specs.declared.ages.AgeRequest.{AgeRequest}
use Rattle.program_script.specs.declared.script_lines.ParseError.{ParseError}

-- what was read of the words behind the beginning of a line is what the line asks for
pub asks : (line words : Octets) (is_dry : Bool) (read : Result (Option AgeRequest) ParseError) → line ≡ begins is_dry ++ words
    → IfOk read (λ found. IfSome found (λ r. (ages_of words ≡ Some (r.days, r.wildmat)) × (r.is_dry ≡ is_dry)))
    → IfOk read (λ found. IfSome found (λ r. IsAgesLine line r))
asks line words is_dry (Err error) is said = tt
asks line words is_dry (Ok None) is said = tt
asks line words is_dry (Ok (Some r)) is said = (words, is ∙ ap (λ b. begins b ++ words) (sym said.1), said.0)

-- a line in two parts
pub parted : (n : ℕ) (line front words : Octets) → take n line ≡ front → words ≡ drop n line → line ≡ front ++ words
parted n line front words begin behind =
    sym (take-append-drop n line) ∙ ap (λ l. l ++ drop n line) begin ∙ ap (λ l. front ++ l) (sym behind)
