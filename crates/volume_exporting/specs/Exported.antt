-- The articles that an export writes.
use Rattle.std.specs.Prelude.{ℕ, ◌-◌, ◌==◌, ◌&&◌, not, if◌then◌else◌, List, length, slice_get, Option, Some, None, option_map}
use Rattle.std.specs.Prelude.{option_and_then, is_some, [], flat_map}
use Rattle.std.specs.List.{filter_map, range_with_len}
use Rattle.volume_exporting.specs.Lines.{in_lines}
use Rattle.volume_exporting.specs.declared.exported_batches.LineEnds.{LineEnds}
use Rattle.session_lookups.specs.Held.{article_with, gone_with}
use Rattle.model.specs.Stream.{Octets}
use Rattle.model.specs.Spool.{Spool, by_number, group_named, high}
use Rattle.model.specs.declared.change.Change.{Change}
use Rattle.model.specs.declared.change.Change.TheVariants.{Group, Article, Expire}
use Rattle.text_rnews.specs.Batch.{entry}

-- what is picked of the numbers from 1 up to this one
abbrev pub picked : (ℕ → Option ℕ) → ℕ → List ℕ
picked pick n = filter_map pick (range_with_len 1 n)

-- the serial, if its change filed an article that is in a group
abbrev pub serial_if_in : Spool → ℕ → Option ℕ
serial_if_in S n = if is_some (article_with S n) && not (is_some (gone_with S n)) then Some n else None

-- the serials of the articles that are in a group, in rising serial
abbrev pub all_serials : Spool → List ℕ
all_serials S = picked (serial_if_in S) (length S)

-- the serial of the article with this number in a group, if there is one
abbrev pub serial_at : Spool → Octets → ℕ → Option ℕ
serial_at S g n = option_map (λ a. a.serial) (by_number S g n)

-- the serials of the articles that are in this group, in rising number
abbrev pub serials_of : Spool → Octets → List ℕ
serials_of S g = picked (serial_at S g) (high S g)

-- the serials of the group with this name, if it exists
abbrev pub serials_in : Spool → Octets → Option (List ℕ)
serials_in S g = option_map (λ group. serials_of S group.name) (group_named S g)

-- the text that a change files, if any
abbrev pub text_filed : Change → Option Octets
text_filed (Group group) = None
text_filed (Article filing) = Some filing.text
text_filed (Expire expiry) = None

-- the text that the change with this serial files
abbrev pub text_with : Spool → ℕ → Option Octets
text_with S n = if n == 0 then None else option_and_then text_filed (slice_get S (n - 1))

-- the serials of what an export writes: of the articles in this group, if it exists, or of those in any group
abbrev pub serials_for : Spool → Option Octets → Option (List ℕ)
serials_for S None = Some (all_serials S)
serials_for S (Some g) = serials_in S g

-- a text with its header line, nothing for none
abbrev pub entry_for : LineEnds → Option Octets → Octets
entry_for ends None = []
entry_for ends (Some text) = entry (in_lines ends text)

-- the batch of the articles with these serials, in this order
abbrev pub batch_of : LineEnds → Spool → List ℕ → Octets
batch_of ends S serials = flat_map (λ serial. entry_for ends (text_with S serial)) serials
