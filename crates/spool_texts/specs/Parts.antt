-- Lines of an overview that are made as they are handed out.
use Rattle.std.specs.Prelude.{◌≡◌, ℕ, ◌+◌, ◌-◌, ◌<◌, ◌≤◌, List, [], ◌++◌, length, slice_get, slice_index}
use Rattle.std.specs.Prelude.{Option, Some, None, IsSome}
use Rattle.session_lookups.specs.Held.{overviews_between}
use Rattle.model.specs.Indexed.{ArePlaces, FilePlaces, line_start}
use Rattle.model.specs.Lawful.{IsLawful}
use Rattle.model.specs.Packs.{most_changes}
use Rattle.model.specs.Spool.{Spool, NewsGroup, group_named, groups, high}
use Rattle.model.specs.Stream.{Octets, dot_line}
use Rattle.spool_index.specs.View.{IndexView, Indexes}
use Rattle.kernel_outbox.specs.declared.made_lines.Lines.{Lines}

-- what lines stand for in a group: the overviews of its articles from one number on, and the line that ends a block
abbrev pub lines_in : Spool → Option NewsGroup → Lines → Octets
lines_in S None lines = []
lines_in S (Some group) lines = overviews_between S group.name lines.next (lines.end - 1) ++ dot_line

-- what lines stand for: those of the group at their place
abbrev pub lines_of : Spool → Lines → Octets
lines_of S lines = lines_in S (slice_get (groups S) lines.group) lines

-- these changes have the lines, and these have as many octets as they say
pub record HasLines (S : Spool) (lines : Lines) : Type 0 where
  pub group : NewsGroup
  pub there : slice_get (groups S) lines.group ≡ Some group
  pub first : 1 ≤ lines.next
  pub order : lines.next ≤ lines.end
  pub high : lines.end ≤ high S group.name + 1
  pub octets : lines.octets ≡ length (lines_of S lines)

-- changes of a volume are lawful, and few
pub record IsStored (S : Spool) : Type 0 where
  pub host : Octets
  pub lawful : IsLawful host S
  pub few : length S ≤ most_changes

-- the index is that of some changes, in which the group exists and has had these numbers
pub record HasRange (index : IndexView) (group : Octets) (from to : ℕ) : Type 0 where
  pub changes : Spool
  pub stored : IsStored changes
  pub indexed : Indexes changes index
  pub here : IsSome (group_named changes group)
  pub first : 1 ≤ from
  pub order : from ≤ to
  pub high : to ≤ high changes group

-- index and places are those of some changes, which have these lines
pub record KeepsLines (inodes : ℕ) (blocks : List Octets) (index : IndexView) (places : FilePlaces) (lines : Lines) : Type 0 where
  pub changes : Spool
  pub stored : IsStored changes
  pub indexed : Indexes changes index
  pub placed : ArePlaces inodes blocks changes places
  pub has : HasLines changes lines

-- each line ends within the content, and has at most 8,191 octets
abbrev pub LinesFit : Octets → List ℕ → ℕ → Type 0
LinesFit content ends count = (k : ℕ) → k < count
    → (slice_index ends k ≤ length content) × (slice_index ends k ≤ line_start ends k + 8_191)
