-- What the operator's lines ask for.
use Rattle.std.specs.Prelude.{◌≡◌, ◌≢◌, ℕ, List, ◌++◌, Bool, false, ◌&&◌, ◌||◌, nat_lt, bytes_eq, if◌then◌else◌, length, Option, Some, None}
use Rattle.std.specs.Prelude.{codes}
use Rattle.std.specs.Prelude.{option_map, unwrap_or}
use Rattle.text_names.specs.Requests as requests
use Rattle.program_script.specs.Script.{LineMeaning, Made, Expired, Came, Asked, meaning_at}
use Rattle.program_script.specs.Words.{is_blank, split_word}
use Rattle.server_operator_lines.specs.Ages.{AsksNoAges, IsAgesLine}
use Rattle.server_operator_lines.specs.declared.line_changes.Change.{Change}
use Rattle.server_operator_lines.specs.declared.line_changes.Change.TheVariants.{Group, Expiry}
use Rattle.server_operator_lines.specs.declared.requests.Request.{Request}
use Rattle.server_operator_lines.specs.declared.requests.Request.TheVariants as request
use Rattle.server_roster.specs.Chosen.{IsNamedBy, NamesNone}
use Rattle.server_roster.specs.declared.chosen.Chosen.{Chosen}

-- a change as a line states it
abbrev pub asked : Change → LineMeaning
asked (Group request) = Made (requests.group_of request)
asked (Expiry name number) = Expired name number

-- what the operator may ask for by a line: what it means in a script at the present moment, without a group whose description is blank
abbrev pub permitted : Option LineMeaning → Option LineMeaning
permitted None = None
permitted (Some (Made group)) = if is_blank group.description then None else Some (Made group)
permitted (Some (Expired name number)) = Some (Expired name number)
permitted (Some (Came session octets)) = Some (Came session octets)
permitted (Some (Asked line)) = Some (Asked line)

-- a line asks for no change
abbrev pub IsNone : Option LineMeaning → Type 0
IsNone None = Unit {0}
IsNone (Some (Made group)) = ⊥
IsNone (Some (Expired name number)) = ⊥
IsNone (Some (Came session octets)) = Unit {0}
IsNone (Some (Asked line)) = Unit {0}

-- a line ends these sessions: it is `drop`, SP, and the word that names them
abbrev pub IsDropLine : List ℕ → Chosen → Type 0
IsDropLine line chosen = (word : List ℕ) × (line ≡ codes "drop " ++ word) × IsNamedBy word chosen

-- a line ends no session
abbrev pub DropsNothing : List ℕ → Type 0
DropsNothing line = (word : List ℕ) → line ≡ codes "drop " ++ word → NamesNone word

-- a line asks for this: a change, an expiry by age, one of the words, or the end of sessions
abbrev pub IsAskedBy : Option ℕ → List ℕ → Request → Type 0
IsAskedBy now line (request.Change change) = permitted (meaning_at now line) ≡ Some (asked change)
IsAskedBy now line (request.Ages ages) = IsAgesLine line ages
IsAskedBy now line request.Status = line ≡ codes "status"
IsAskedBy now line request.Sessions = line ≡ codes "sessions"
IsAskedBy now line (request.Drop chosen) = IsDropLine line chosen
IsAskedBy now line request.Stop = line ≡ codes "stop"

-- a line asks for nothing
abbrev pub AsksNothing : Option ℕ → List ℕ → Type 0
AsksNothing now line =
    (line ≢ codes "status") × (line ≢ codes "stop") × (line ≢ codes "sessions") × DropsNothing line × AsksNoAges line
    × IsNone (permitted (meaning_at now line))

-- the line would make a group, or take articles out of one, and its name has more than 40 octets
abbrev pub has_long_name : List ℕ → Bool
has_long_name line = unwrap_or (option_map of_parts (split_word line)) false where
  name_of : List ℕ → List ℕ
  name_of words = unwrap_or (option_map (λ parts. parts.0) (split_word words)) words

  of_parts : List ℕ × List ℕ → Bool
  of_parts parts = (bytes_eq parts.0 (codes "group") || bytes_eq parts.0 (codes "expire")) && nat_lt 40 (length (name_of parts.1))
