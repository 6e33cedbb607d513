-- The state of a volume for a person (this project's own form, docs/FORMATS.md).
use Rattle.model.specs.Files.{largest_file}
use Rattle.std.specs.Prelude.{ℕ, ◌-◌, ◌*◌, ◌/◌, ◌==◌, if◌then◌else◌, max, List, [], ◌∷◌, ◌++◌, codes, decimal, fold, length, map, replicate}
use Rattle.std.specs.List.{flat_map}
use Rattle.model.specs.Room.{octets_asked}
use Rattle.model.specs.Spool.{status_octet}
use Rattle.model.specs.Stream.{Octets}
use Rattle.volume_states.specs.declared.state.Gone.{Gone}
use Rattle.volume_states.specs.declared.state.GroupStatus.{GroupStatus}
use Rattle.volume_states.specs.declared.state.Share.{Share}
use Rattle.volume_states.specs.declared.state.VolumeStatus.{VolumeStatus}
use Rattle.volume_states.specs.declared.table.Row.{Row}
use Rattle.volume_states.specs.declared.table.Widths.{Widths}

-- ---- cells

-- a cell at the left or at the right of a column
abbrev pub left : ℕ → Octets → Octets
left width cell = cell ++ replicate (width - length cell) 32

abbrev pub right : ℕ → Octets → Octets
right width cell = replicate (width - length cell) 32 ++ cell

-- the used part in per cent, rounded down
abbrev pub in_per_cent : ℕ → ℕ → Octets
in_per_cent used all = decimal (100 * used / all) ++ codes " %"

-- ---- the facts

-- a line with the name of a fact and its value
abbrev pub fact : Octets → Octets → Octets
fact name known = left 10 name ++ known ++ 10 ∷ []

abbrev pub share_text : Share → Octets
share_text s =
    decimal s.all ++ codes ": " ++ decimal s.used ++ codes " used, " ++ decimal (s.all - s.used) ++ codes " free, "
    ++ in_per_cent s.used s.all ++ codes " used"

abbrev pub gone_text : Gone → Octets
gone_text g =
    decimal g.articles ++ codes " articles; of " ++ decimal g.texts ++ codes " a renewal gives back " ++ decimal (g.octets / 4096)
    ++ codes " blocks or more"

abbrev pub facts : VolumeStatus → Octets
facts s =
    fact (codes "host") s.host ++ fact (codes "format") (decimal s.format) ++ fact (codes "blocks") (share_text s.blocks)
    ++ fact (codes "inodes") (share_text s.inodes) ++ fact (codes "changes") (decimal s.changes)
    ++ fact (codes "gone") (gone_text s.gone)

-- ---- the table of groups

abbrev pub heading : Row
heading = record {
  name = codes "group";
  low = codes "low";
  high = codes "high";
  count = codes "count";
  status = codes "status";
  overview = codes "overview";
}

-- the overview in per cent of the size up to which its group takes articles
abbrev pub row_of : GroupStatus → Row
row_of g = record {
  name = g.name;
  low = decimal g.low;
  high = decimal g.high;
  count = decimal g.count;
  status = status_octet g.status ∷ [];
  overview = in_per_cent g.overview (largest_file - octets_asked);
}

abbrev pub rows_of : List GroupStatus → List Row
rows_of groups = heading ∷ map row_of groups

-- the widths at which the cells of a row fit too
abbrev pub wider : Widths → Row → Widths
wider w r = record {
  name = max w.name (length r.name);
  low = max w.low (length r.low);
  high = max w.high (length r.high);
  count = max w.count (length r.count);
  status = max w.status (length r.status);
  overview = max w.overview (length r.overview);
}

abbrev pub widths_of : List Row → Widths
widths_of rows = fold wider (record { name = 0; low = 0; high = 0; count = 0; status = 0; overview = 0 }) rows

abbrev pub numbers : Widths → Row → Octets
numbers w r = right w.low r.low ++ codes "  " ++ right w.high r.high ++ codes "  " ++ right w.count r.count

abbrev pub ending : Widths → Row → Octets
ending w r = left w.status r.status ++ codes "  " ++ right w.overview r.overview ++ 10 ∷ []

abbrev pub line : Widths → Row → Octets
line w r = left w.name r.name ++ codes "   " ++ numbers w r ++ codes "  " ++ ending w r

abbrev pub table : List GroupStatus → Octets
table groups = let rows = rows_of groups in flat_map (line (widths_of rows)) rows

-- ---- the whole

-- an empty line and the table, if there is a group
abbrev pub groups_text : List GroupStatus → Octets
groups_text groups = if length groups == 0 then [] else 10 ∷ table groups

abbrev pub status_text : VolumeStatus → Octets
status_text s = facts s ++ groups_text s.groups.items
