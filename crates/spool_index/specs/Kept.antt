-- What the index keeps of a change, stated in terms of the spool.
use Rattle.std.specs.Prelude.{length}
use Rattle.model.specs.Article.{header, id}
use Rattle.model.specs.Stream.{Octets}
use Rattle.model.specs.Spool.{SpoolEntry}
use Rattle.model.specs.declared.change.Change.{Change}
use Rattle.model.specs.declared.change.Change.TheVariants.{Group, Article, Expire}
use Rattle.spool_index.specs.declared.note.Lengths.{Lengths}
use Rattle.spool_index.specs.declared.note.Note.{Note}
use Rattle.spool_index.specs.declared.note.Note.TheVariants as note

-- how many octets a text and its header have
abbrev pub lengths_of : Octets → Lengths
lengths_of text = record { text = length text; header = length (header text) }

-- what is kept of a change; the fields of a group are kept with the group
abbrev pub kept : SpoolEntry → Note
kept e = kept_of e.change where
  kept_of : Change → Note
  kept_of (Group g) = note.Group
  kept_of (Article f) = note.Article (id f.text) (lengths_of f.text) f.envelope.groups f.envelope.moment
  kept_of (Expire e) = note.Expiry e.group e.number
