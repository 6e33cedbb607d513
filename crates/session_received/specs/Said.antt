-- What a message says, as it was read.
use Rattle.std.specs.Prelude.{◌≡◌}
use Rattle.model.specs.Commands.{parsed_line}
use Rattle.model.specs.Stream.{Octets}
use Rattle.model.specs.declared.command.Parsed.{Parsed}
use Rattle.model.specs.declared.message.Message.{Message}
use Rattle.model.specs.declared.message.Message.TheVariants as message
use Rattle.session_received.specs.declared.Said.{Said}
use Rattle.session_received.specs.declared.Said.TheVariants as said

-- the message is a line, and this is what the line is
pub record IsOfLine (m : Message) (parsed : Parsed) : Type 0 where
  pub line : Octets
  pub is_line : m ≡ message.Line line
  pub is_parsed : parsed ≡ parsed_line line

-- a line says what it is, and a block its text; nothing may be said of any message
abbrev pub IsSaid : Message → Said → Type 0
IsSaid m (said.Line parsed) = IsOfLine m parsed
IsSaid m (said.Block text) = message.Block text ≡ m
IsSaid m said.Nothing = Unit {0}
