-- Commands without arguments.
use Rattle.std.specs.Prelude.{ℕ, List, [], ◌∷◌, Option, Some, None}
use Rattle.model.specs.declared.command.Command.{Command}

-- the command, if no word follows its keyword
abbrev pub alone_of : Command → List (List ℕ) → Option Command
alone_of command [] = Some command
alone_of command (word ∷ words) = None
