-- The arguments of a command follow their grammar.
use Rattle.std.specs.Prelude.{ℕ, List, Option, IfSome, IsTrue}
use Rattle.model.specs.Commands.{parsed_line, is_date_word, is_time_word}
use Rattle.model.specs.Names.{is_group_name, is_message_id, is_wildmat}
use Rattle.model.specs.declared.command.Command.{Command}
use Rattle.model.specs.declared.command.Command.TheVariants as command
use Rattle.model.specs.declared.command.Parsed.{Parsed}
use Rattle.model.specs.declared.command.Parsed.TheVariants as parsed
use Rattle.model.specs.declared.command.Selector.{Selector}
use Rattle.model.specs.declared.command.Selector.TheVariants as selector
use Rattle.model.specs.declared.command.Wanted.{Wanted}
use Rattle.model.specs.declared.command.Wanted.TheVariants as wanted

abbrev pub IsSelector : Selector → Type 0
IsSelector (selector.Id id) = IsTrue (is_message_id id)
IsSelector other = Unit {0}

abbrev pub IsWanted : Wanted → Type 0
IsWanted (wanted.Id id) = IsTrue (is_message_id id)
IsWanted other = Unit {0}

-- LISTGROUP names no group, or a valid one
abbrev pub IsNamed : Option (List ℕ) → Type 0
IsNamed group = IfSome group (λ name. IsTrue (is_group_name name))

-- a listing has no wildmat, or a valid one
abbrev pub IsListing : Option (List ℕ) → Type 0
IsListing wildmat = IfSome wildmat (λ w. IsTrue (is_wildmat w))

-- the texts of a command are group names, message-ids, wildmats, dates and times
abbrev pub IsInGrammar : Command → Type 0
IsInGrammar (command.Group name) = IsTrue (is_group_name name)
IsInGrammar (command.ListGroup group range) = IsNamed group
IsInGrammar (command.Fetch part s) = IsSelector s
IsInGrammar (command.Over w) = IsWanted w
IsInGrammar (command.Ihave id) = IsTrue (is_message_id id)
IsInGrammar (command.List listing wildmat) = IsListing wildmat
IsInGrammar (command.NewGroups date time) = IsTrue (is_date_word date) × IsTrue (is_time_word time)
IsInGrammar (command.NewNews wildmat date time) = IsTrue (is_wildmat wildmat) × IsTrue (is_date_word date) × IsTrue (is_time_word time)
IsInGrammar other = Unit {0}

abbrev pub IsParsed : Parsed → Type 0
IsParsed (parsed.Command c) = IsInGrammar c
IsParsed other = Unit {0}

-- the arguments in each line follow their grammar
abbrev pub LinesAreInGrammar : Type 0
LinesAreInGrammar = (line : List ℕ) → IsParsed (parsed_line line)
