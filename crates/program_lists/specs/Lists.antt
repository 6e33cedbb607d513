-- What the lines of a list of groups ask for (docs/FORMATS.md).
use Rattle.std.specs.Prelude.{ℕ, ◌+◌, ◌==◌, ◌&&◌, ◌||◌, not, nat_lt, Bool, if◌then◌else◌, List, [], ◌∷◌, ◌++◌, length, drop}
use Rattle.std.specs.Prelude.{Option, Some, None, option_map, option_and_then, unwrap_or, is_some, is_none, Result, Ok, Err, bytes_eq}
use Rattle.std.specs.Prelude.{codes}
use Rattle.std.specs.List.{position}
use Rattle.model.specs.Names.{begins, is_group_name}
use Rattle.model.specs.Stream.{Octets}
use Rattle.model.specs.declared.change.NewGroup.{NewGroup}
use Rattle.model.specs.declared.values.Status.{Status}
use Rattle.program_script.specs.Words as words
use Rattle.program_script.specs.Words.{is_blank, number_of, split_at, split_word}
use Rattle.text_names.specs.Descriptions.{is_description}
use Rattle.text_names.specs.Requests as requests
use Rattle.text_names.specs.declared.values.GroupRequest.{GroupRequest}
use Rattle.program_lists.specs.declared.faults.ListFault.{ListFault}
use Rattle.program_lists.specs.declared.faults.ListFault.TheVariants.{NoLine, LongName, NoName, Moderated, OtherFlag, NoDescription}
use Rattle.program_lists.specs.declared.reading.Listed.{Listed}

-- ---- the lines

-- a text from its first octet on that is no TAB
abbrev pub without_tabs : Octets → Octets
without_tabs text = unwrap_or (option_map (λ i. drop i text) (position (λ x. not (x == 9)) text)) []

-- NAME<TAB>DESCRIPTION: the name and the description
unfoldable pub about_of : Octets → Option (Octets × Octets)
about_of line = option_map (λ parts. (parts.0, without_tabs parts.1)) (split_at 9 line)

-- the last word of a line
abbrev pub is_word : Octets → Bool
is_word flag = nat_lt 0 (length flag) && is_none (split_word flag)

-- NAME HIGH LOW FLAG: the name and the flag
unfoldable pub active_of : Octets → Option (Octets × Octets)
active_of line =
    option_and_then (λ name. option_and_then (λ high. option_and_then (λ low.
    if is_some (number_of high.0) && is_some (number_of low.0) && is_word low.1 then Some (name.0, low.1) else None)
    (split_word high.1)) (split_word name.1)) (split_word line)

-- a blank line, or a comment
abbrev pub is_skipped : Octets → Bool
is_skipped line = is_blank line || begins (λ x. x == 35) line

-- ---- what they ask for

-- the description in a line that describes a group of this name
abbrev pub told_by : Octets → Octets → Option Octets
told_by name line = option_and_then (λ about. if bytes_eq about.0 name then Some about.1 else None) (about_of line)

-- the first one, or else the second
abbrev pub first_of : Option Octets → Option Octets → Option Octets
first_of None other = other
first_of (Some text) other = Some text

-- the description of the first line that describes a group of this name
abbrev pub first_about : List Octets → Octets → Option Octets
first_about [] name = None
first_about (line ∷ more) name = first_of (told_by name line) (first_about more name)

-- the description of a group of this name
abbrev pub description_of : List Octets → Octets → Octets
description_of lines name = unwrap_or (first_about lines name) (codes "No description.")

abbrev pub status_of : Octets → Option Status
status_of flag = words.status_of flag

-- why a line of `active` makes no group, whatever is said about it: the first test that fails
abbrev pub fault_of : Octets → Octets → Option ListFault
fault_of name flag =
    if nat_lt 40 (length name) then Some LongName
    else (if not (is_group_name name) then Some NoName
    else (if bytes_eq flag (codes "m") then Some Moderated
    else (if is_none (status_of flag) then Some OtherFlag else None)))

-- the group with this status, unless its description is none
abbrev pub described : Octets → Octets → ℕ → Option Status → Result NewGroup ListFault
described name description moment None = Err OtherFlag
described name description moment (Some status) =
    if is_blank description then Err NoDescription
    else (if is_description description then Ok (record { name = name; status = status; description = description; moment = moment })
    else Err NoDescription)

-- the group that a name, a flag and a description ask for
abbrev pub request_of : Octets → Octets → Octets → ℕ → Result NewGroup ListFault
request_of name flag description moment = judged (fault_of name flag) where
  judged : Option ListFault → Result NewGroup ListFault
  judged None = described name description moment (status_of flag)
  judged (Some fault) = Err fault

-- what a line that isn't passed over asks for
abbrev pub asked_active : List Octets → ℕ → Option (Octets × Octets) → Result NewGroup ListFault
asked_active lines moment None = Err NoLine
asked_active lines moment (Some active) = request_of active.0 active.1 (description_of lines active.0) moment

-- what a line of the list asks for, if it asks for anything
abbrev pub asked_of : List Octets → ℕ → Octets → Option (Result NewGroup ListFault)
asked_of lines moment line =
    if is_skipped line || is_some (about_of line) then None else Some (asked_active lines moment (active_of line))

-- what one line asks for, in front of what later ones do
abbrev pub with_line : ℕ → Option (Result NewGroup ListFault) → List (ℕ × Result NewGroup ListFault) → List (ℕ × Result NewGroup ListFault)
with_line number None later = later
with_line number (Some asked) later = (number, asked) ∷ later

-- what the lines ask for from this one on, with the numbers of the lines
abbrev pub listed_from : List Octets → ℕ → ℕ → List Octets → List (ℕ × Result NewGroup ListFault)
listed_from lines moment number [] = []
listed_from lines moment number (line ∷ more) =
    with_line number (asked_of lines moment line) (listed_from lines moment (number + 1) more)

-- what is asked for, with its texts as lists
abbrev pub asked : Result GroupRequest ListFault → Result NewGroup ListFault
asked (Ok request) = Ok (requests.group_of request)
asked (Err fault) = Err fault

abbrev pub said : Listed → ℕ × Result NewGroup ListFault
said listed = (listed.line, asked listed.asked)
