-- The change that files an article which an answer accepts.
use Rattle.model.specs.Stream.{Octets}
use Rattle.model.specs.declared.change.Change.{Change}
use Rattle.model.specs.declared.change.Change.TheVariants as change
use Rattle.session_posting.specs.declared.accepted.Accepted.{Accepted}
use Rattle.session_posting.specs.declared.accepted.Stored.{Stored}
use Rattle.session_posting.specs.declared.accepted.Stored.TheVariants as stored

-- the text that is stored
abbrev pub text_of : Stored → Octets
text_of (stored.Carried article) = article
text_of (stored.Posted text) = text

abbrev pub change_of : Accepted → Change
change_of a = change.Article (record { text = text_of a.text; envelope = a.envelope })
