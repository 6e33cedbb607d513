-- Which groups are in a list, and its lines.
use Rattle.std.specs.Prelude.{ℕ, Bool, true, IsTrue, List, [], ◌∷◌, ◌++◌, codes, decimal, filter, flat_map, map, max, if◌then◌else◌}
use Rattle.model.specs.Answer.{active_line, is_since, newsgroups_line, times_line}
use Rattle.model.specs.Names.{is_wildmat, wildmat_matches}
use Rattle.model.specs.Spool.{Listed, NewsGroup, greatest, status_octet}
use Rattle.model.specs.Stream.{Octets, crlf, line, stuffed_line}
use Rattle.session_lookups.specs.Held.{Known}
use Rattle.session_listing.specs.declared.listed_groups.Choice.{Choice}
use Rattle.session_listing.specs.declared.listed_groups.Choice.TheVariants as pick
use Rattle.session_listing.specs.declared.listed_groups.Show.{Show}
use Rattle.session_listing.specs.declared.listed_groups.Show.TheVariants as show

-- whether this group is in a list
abbrev pub is_picked : Choice → NewsGroup → Bool
is_picked pick.All g = true
is_picked (pick.Matching w) g = wildmat_matches w.now g.name
is_picked (pick.Since from) g = is_since from g.moment

-- the wildmat is valid
abbrev pub IsPick : Choice → Type 0
IsPick pick.All = Unit {0}
IsPick (pick.Matching w) = IsTrue (is_wildmat w.now)
IsPick (pick.Since from) = Unit {0}

-- what a line says of a group
abbrev pub shown_as : Show → Listed → Octets
shown_as show.Active l = active_line l
shown_as show.Times l = times_line l
shown_as show.Newsgroups l = newsgroups_line l

-- the part of the line after the name, with its CRLF
abbrev pub rest_of : Show → Listed → Octets
rest_of show.Active l = 32 ∷ decimal l.high ++ 32 ∷ decimal l.low ++ 32 ∷ status_octet l.group.status ∷ crlf
rest_of show.Times l = 32 ∷ decimal l.group.moment ++ codes " admin" ++ crlf
rest_of show.Newsgroups l = 9 ∷ l.group.description ++ crlf

-- the line of a group as a block sends it, if the group is in a list
abbrev pub line_of : Choice → Show → Known → Octets
line_of pick show k = if is_picked pick k.listed.group then stuffed_line (line (shown_as show k.listed)) else []

-- the last serial so far, with that of this group if the group is in a list
abbrev pub later_of : Choice → ℕ → Known → ℕ
later_of pick last k = if is_picked pick k.listed.group then max last k.last else last

abbrev pub picked : Choice → List Known → List Known
picked pick groups = filter (λ k. is_picked pick k.listed.group) groups

-- the lines of the groups in a list, as a block sends them
abbrev pub lines_of : Choice → Show → List Known → Octets
lines_of pick show groups = flat_map (λ k. stuffed_line (line (shown_as show k.listed))) (picked pick groups)

-- the last serial that names one of the groups in a list
abbrev pub last_of : Choice → List Known → ℕ
last_of pick groups = greatest (map (λ k. k.last) (picked pick groups))
