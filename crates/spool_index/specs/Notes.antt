-- The note of an article.
use Rattle.std.specs.Prelude.{ℕ, List, Option, Some, None}
use Rattle.model.specs.Stream.{Octets}
use Rattle.spool_index.specs.declared.note.Lengths.{Lengths}
use Rattle.spool_index.specs.declared.note.Note.{Note}
use Rattle.spool_index.specs.declared.note.Note.TheVariants as note

-- its message-id
abbrev pub id_in : Note → Option Octets
id_in note.Group = None
id_in (note.Article id lengths groups moment) = Some id
id_in (note.Expiry group number) = None

-- how many octets it has
abbrev pub lengths_in : Note → Option Lengths
lengths_in note.Group = None
lengths_in (note.Article id lengths groups moment) = Some lengths
lengths_in (note.Expiry group number) = None

abbrev pub groups_in : Note → Option (List Octets)
groups_in note.Group = None
groups_in (note.Article id lengths groups moment) = Some groups
groups_in (note.Expiry group number) = None

abbrev pub moment_in : Note → Option ℕ
moment_in note.Group = None
moment_in (note.Article id lengths groups moment) = Some moment
moment_in (note.Expiry group number) = None
