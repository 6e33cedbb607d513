-- What is read from a caller.
use Rattle.std.specs.Prelude.{◌≡◌, ℕ, ◌++◌, List, Option, Some, None}
use Rattle.std.specs.Io.KnownBytes.{Consumes, IsAtEnd}
use Rattle.model.specs.Stream.{next}
use Rattle.model.specs.declared.message.Message.{Message}
use Rattle.model.specs.declared.message.Mode.{Mode}

-- of a stream with these octets before and after some were read; this is the next message of those that were held and
-- these, and what follows it is held now
abbrev pub HasNext : Mode → List ℕ → Option (List ℕ) → Option (List ℕ) → Message → List ℕ → Type 0
HasNext mode held before after message rest =
    (octets : List ℕ) × Consumes before after octets × (next mode (held ++ octets) ≡ Some (message, rest))

-- all octets of the stream were read, and no message ends in those that were held and these
abbrev pub HasEnded : Mode → List ℕ → Option (List ℕ) → Option (List ℕ) → Type 0
HasEnded mode held before after =
    (octets : List ℕ) × Consumes before after octets × (next mode (held ++ octets) ≡ None) × IsAtEnd after
