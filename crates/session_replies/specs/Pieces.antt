-- Pieces of a text, stuffed one after the other.
use Rattle.std.specs.Prelude.{◌≡◌, true, false, ◌++◌}
use Rattle.model.specs.Stream.{Octets, dot_line, stuffed}
use Rattle.session_replies.specs.Stuffing.{after, stuffed_from}
use Rattle.session_replies.specs.declared.stuffing.Stuffing.{Stuffing}

-- With the line that ends it, a text that is stuffed octet by octet is the block that sends it.
abbrev pub PiecesMakeTheText : Type 0
PiecesMakeTheText = (text : Octets) → stuffed_from (record { fresh = true; after_cr = false }) text ++ dot_line ≡ stuffed text

-- A text may be cut anywhere.
pub record PiecesFollow : Type 0 where
  pub sent : (s : Stuffing) (piece later : Octets)
      → stuffed_from s (piece ++ later) ≡ stuffed_from s piece ++ stuffed_from (after s piece) later
  pub state : (s : Stuffing) (piece later : Octets) → after s (piece ++ later) ≡ after (after s piece) later
