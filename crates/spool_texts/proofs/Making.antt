-- Lines that are made later, from the overview of their group.
use Rattle.std.proofs.Common.{
  Some,
  ◌≡◌,
  ◌<◌,
  ◌≤◌,
  inl,
  inr,
  ℕ,
  suc,
  ◌+◌,
  ◌-◌,
  ◌*◌,
  List,
  ◌++◌,
  length,
  get_or,
  map,
  refl,
  sym,
  ◌∙◌,
  ap,
  arith,
  append_assoc,
}
use Rattle.std.specs.Prelude.{◌^◌, slice_get}
use Rattle.std.proofs.Math.Path.{transport}
use Rattle.std.proofs.lemmas.Bool.{cases_lt}
use Rattle.std.proofs.lemmas.List.{length-append, length-map}
use Rattle.std.proofs.lemmas.Option.{slice_get_read, slice_get_within}
use Rattle.model.specs.Files.{IsFileSystem, content_of, entry}
use Rattle.session_lookups.specs.Held.{overviews_between}
use Rattle.model.specs.Indexed.{ArePlaces, FilePlaces, GroupIndex, group_index, line_start}
use Rattle.spool_groups.specs.Naming.{heads}
use Rattle.model.specs.Spool.{Spool, filed_in, groups}
use Rattle.model.specs.SpoolFiles.{overview_file}
use Rattle.model.proofs.HoldsOne.{high_few}
use Rattle.model.specs.Stream.{Octets, dot_line}
use Rattle.spool_groups.specs.Shown.{shown}
use Rattle.spool_groups.specs.declared.group.Group.{Group}
use Rattle.kernel_outbox.specs.declared.made_lines.Lines.{Lines}
use Rattle.spool_texts.specs.Parts.{HasLines, HasRange, IsStored, LinesFit, lines_in, lines_of}
use Rattle.spool_index.specs.View.{IndexView}
use Rattle.spool_texts.specs.Texts.{LinesRise, lines_from}
use Rattle.spool_texts.proofs.Groups.{HasOverview, IsAt, IsKept, has_overview, is_at, is_kept, kept_rise}
use Rattle.spool_texts.proofs.LineSizes.{ends_within, lines_fit, lines_length, lines_small, lines_split, starts_rise}
use Rattle.spool_texts.proofs.Lines.{between, group_ends, rising}

-- what the index keeps of the group with this place
pub kept_at : (S : Spool) (gs : List Group) (name : Octets) (k : ℕ) (g : Group) → IsAt S name k
    → map shown gs ≡ map (group_index S) (groups S) → g ≡ get_or gs k g → IsKept S name (shown g)
kept_at S gs name k g its same is =
    let size : length gs ≡ length (groups S) = sym (length-map gs shown) ∙ ap (λ (l : List GroupIndex). length l) same
    ∙ length-map (groups S) (group_index S) in
    is_kept shown gs S name k g its same
    (slice_get_read gs (length (groups S)) k g (sym size) (slice_get_within (groups S) k its.group its.at) is)

-- what is read to make lines: the inodes of the overviews, and what the index keeps of the groups
pub record Reads (inodes : ℕ) (blocks : List Octets) (S : Spool) (lines : Lines) (places : List ℕ) (g : Group) : Type 0 where
  pub has : HasLines S lines
  pub overview : HasOverview inodes blocks S places has.group.name lines.group
  pub kept : IsKept S has.group.name (shown g)

pub reads : {inodes : ℕ} {blocks : List Octets} {S : Spool} {p : FilePlaces} {lines : Lines} {places : List ℕ} (gs : List Group) (g : Group)
    → IsFileSystem inodes blocks → ArePlaces inodes blocks S p → HasLines S lines → places ≡ p.overviews
    → map shown gs ≡ map (group_index S) (groups S) → g ≡ get_or gs lines.group g → Reads inodes blocks S lines places g
reads {inodes} {blocks} {S} {p} {lines} {places} gs g rule placed has same shows at =
    let its : IsAt S has.group.name lines.group = record { group = has.group; its_name = refl; at = has.there } in
    record {
      has = has;
      overview = has_overview inodes blocks rule S p places has.group.name lines.group same its placed;
      kept = kept_at S gs has.group.name lines.group g its shows at;
    }

-- where no more is made than a release hands out, all is made
pub at_end : (next end octets : ℕ) → next ≤ end → (next < end → 65_536 < octets) → octets ≤ 65_536 → next ≡ end
at_end next end octets high many few = elim (cases_lt next end) [
  | inl before ↦ absurd (omega (arith, many before, few))
  | inr after ↦ omega (arith, high, after)
]

module _ {inodes : ℕ} {blocks : List Octets} {S : Spool} {lines : Lines} {places : List ℕ} {g : Group}
    (r : Reads inodes blocks S lines places g) where
  abbrev content : Octets
  content = content_of blocks (entry inodes blocks (get_or places lines.group 0))

  pub within : lines.end ≤ length (shown g).filed + 1
  within = omega (arith, r.has.high, r.kept.count)

  pub rises : LinesRise (shown g).ends (length (shown g).filed)
  rises = kept_rise S r.has.group.name (shown g) r.kept

  pub fits : IsStored S → LinesFit content (shown g).ends (length (shown g).filed)
  fits stored = transport (λ i. LinesFit (sym r.overview.content_is i) (sym r.kept.ends i) (sym r.kept.count i))
      (lines_fit S r.has.group.name stored)

  -- those from a number on
  are_made : (next octets : ℕ) → 1 ≤ next → next ≤ lines.end
      → lines_of S (record { group = lines.group; next = next; end = lines.end; octets = octets })
      ≡ lines_from content (shown g).ends (next - 1) (lines.end - next) ++ dot_line
  are_made next octets some low =
      let count : lines.end - 1 - (next - 1) ≡ lines.end - next = omega (arith, some) in
      ap (λ o. lines_in S o (record { group = lines.group; next = next; end = lines.end; octets = octets })) r.has.there
      ∙ ap (λ (l : Octets). l ++ dot_line)
      (sym (between S r.has.group.name content (shown g).ends next (lines.end - 1) some (omega (arith, low, some))
      (omega (arith, r.has.high)) r.overview.content_is r.kept.ends)
      ∙ ap (λ (n : ℕ). lines_from content (shown g).ends (next - 1) n) count)

  all_made : lines_of S lines ≡ lines_from content (shown g).ends (lines.next - 1) (lines.end - lines.next) ++ dot_line
  all_made = are_made lines.next lines.octets r.has.first r.has.order

  pub how_many : lines.octets ≡ length (lines_from content (shown g).ends (lines.next - 1) (lines.end - lines.next)) + 3
  how_many = omega (
    arith,
    r.has.octets,
    ap (λ (l : Octets). length l) all_made,
    length-append (lines_from content (shown g).ends (lines.next - 1) (lines.end - lines.next)) dot_line,
  )

  -- all of them are made
  pub made_whole : (next : ℕ) (old new : Octets) → next ≡ lines.end
      → new ≡ old ++ lines_from content (shown g).ends (lines.next - 1) (next - lines.next) → new ++ dot_line ≡ old ++ lines_of S lines
  made_whole next old new end is =
      ap (λ (l : Octets). l ++ dot_line)
      (is ∙ ap (λ (n : ℕ). old ++ lines_from content (shown g).ends (lines.next - 1) (n - lines.next)) end)
      ∙ append_assoc old (lines_from content (shown g).ends (lines.next - 1) (lines.end - lines.next)) dot_line
      ∙ ap (λ (l : Octets). old ++ l) (sym all_made)

  -- some of them are made, and those from a number on are left
  pub some_made : (next octets : ℕ) (old new : Octets) → lines.next ≤ next → next ≤ lines.end
      → new ≡ old ++ lines_from content (shown g).ends (lines.next - 1) (next - lines.next)
      → new ++ lines_of S (record { group = lines.group; next = next; end = lines.end; octets = octets }) ≡ old ++ lines_of S lines
  some_made next octets old new low high is =
      let first = r.has.first in
      let ends = (shown g).ends in
      let here : lines.next - 1 + (next - lines.next) ≡ next - 1 = omega (arith, first, low) in
      let all : lines.end - lines.next ≡ (next - lines.next) + (lines.end - next) = omega (arith, low, high) in
      let made = lines_from content ends (lines.next - 1) (next - lines.next) in
      let later = lines_from content ends (next - 1) (lines.end - next) in
      let split : lines_from content ends (lines.next - 1) (lines.end - lines.next) ≡ made ++ later =
      ap (λ (n : ℕ). lines_from content ends (lines.next - 1) n) all
      ∙ lines_split content ends (lines.next - 1) (next - lines.next) (lines.end - next)
      ∙ ap (λ (j : ℕ). made ++ lines_from content ends j (lines.end - next)) here in
      (λ i. is i ++ are_made next octets (omega (arith, first, low)) high i)
      ∙ append_assoc old made (later ++ dot_line)
      ∙ ap (λ (l : Octets). old ++ l)
      (sym (append_assoc made later dot_line) ∙ ap (λ (l : Octets). l ++ dot_line) (sym split) ∙ sym all_made)

  -- no more is made than there is
  pub made_less : (next : ℕ) (old new : Octets) → lines.next ≤ next → next ≤ lines.end
      → new ≡ old ++ lines_from content (shown g).ends (lines.next - 1) (next - lines.next) → length new - length old ≤ lines.octets
  made_less next old new low high is =
      let rest : Octets = lines_of S (record { group = lines.group; next = next; end = lines.end; octets = 0 }) in
      omega (
        arith,
        r.has.octets,
        ap (λ (l : Octets). length l) (some_made next 0 old new low high is),
        length-append new rest,
        length-append old (lines_of S lines),
      )

  -- of those from a number on it is known how many octets they have
  pub left_has : (next made : ℕ) (old new : Octets) → lines.next ≤ next → next ≤ lines.end
      → new ≡ old ++ lines_from content (shown g).ends (lines.next - 1) (next - lines.next) → made ≡ length new - length old
      → HasLines S (record { group = lines.group; next = next; end = lines.end; octets = lines.octets - made })
  left_has next made old new low high is count =
      let its = lines.octets - made in
      let rest : Octets = lines_of S (record { group = lines.group; next = next; end = lines.end; octets = its }) in
      record {
        group = r.has.group;
        there = r.has.there;
        first = omega (arith, r.has.first, low);
        order = high;
        high = r.has.high;
        octets = omega (
          arith,
          count,
          r.has.octets,
          ap (λ (l : Octets). length l) is,
          length-append old (lines_from content (shown g).ends (lines.next - 1) (next - lines.next)),
          ap (λ (l : Octets). length l) (some_made next its old new low high is),
          length-append new rest,
          length-append old (lines_of S lines),
        );
      }

-- ---- the lines of a range

-- what they stand for
pub range_lines : (S : Spool) (name : Octets) (place from to octets : ℕ) → IsAt S name place
    → lines_of S (record { group = place; next = from; end = to + 1; octets = octets }) ≡ overviews_between S name from to ++ dot_line
range_lines S name place from to octets its =
    let last : to + 1 - 1 ≡ to = omega arith in
    ap (λ o. lines_in S o (record { group = place; next = from; end = to + 1; octets = octets })) its.at
    ∙ ap (λ (g : Octets). overviews_between S g from (to + 1 - 1) ++ dot_line) its.its_name
    ∙ ap (λ (n : ℕ). overviews_between S name from n ++ dot_line) last

-- how many octets they have, by where the first begins and the last ends
pub record Sized (S : Spool) (name : Octets) (from to start stop : ℕ) : Type 0 where
  pub order : start ≤ stop
  pub size : length (overviews_between S name from to) + start ≡ stop + 2 * (to + 1 - from)
  -- with what ends each line and the block
  pub few : IsStored S → stop - start + (to + 1 - from) * 2 + 3 < 2 ^ 64

pub range_sized : (S : Spool) (name : Octets) (ends : List ℕ) (from to start stop : ℕ) → ends ≡ group_ends S name → 1 ≤ from → from ≤ to
    → to ≤ length (filed_in S name) → start ≡ line_start ends (from - 1) → stop ≡ get_or ends (to - 1) 0 → Sized S name from to start stop
range_sized S name ends from to start stop are some order high starts stops =
    let content = overview_file S name in
    let its = group_ends S name in
    let count : to - (from - 1) ≡ to + 1 - from = omega (arith, some) in
    let end : from - 1 + (to + 1 - from) ≡ suc (to - 1) = omega (arith, some, order) in
    let fits : from - 1 + (to + 1 - from) ≤ length (filed_in S name) = omega (arith, end, some, order, high) in
    let same : lines_from content its (from - 1) (to + 1 - from) ≡ overviews_between S name from to =
    ap (λ (n : ℕ). lines_from content its (from - 1) n) (sym count)
    ∙ between S name content its from to some (omega (arith, order)) high refl refl in
    let all = lines_length content its (length (filed_in S name)) (rising S name) (ends_within S name) (from - 1) (to + 1 - from) fits in
    let begin : start ≡ line_start its (from - 1) = starts ∙ ap (λ (l : List ℕ). line_start l (from - 1)) are in
    let last : stop ≡ line_start its (from - 1 + (to + 1 - from)) =
    stops ∙ ap (λ (l : List ℕ). get_or l (to - 1) 0) are ∙ ap (line_start its) (sym end) in
    let ordered : start ≤ stop = omega (
      arith,
      begin,
      last,
      starts_rise content its (length (filed_in S name)) (rising S name) (ends_within S name) (from - 1) (to + 1 - from) fits,
    ) in
    let size : length (overviews_between S name from to) + start ≡ stop + 2 * (to + 1 - from) =
    omega (arith, begin, last, all, ap (λ (l : Octets). length l) same) in
    record {
      order = ordered;
      size = size;
      few = λ stored. omega (
        arith,
        size,
        ap (λ (l : Octets). length l) same,
        lines_small content its (length (filed_in S name)) (rising S name) (ends_within S name) (lines_fit S name stored) (from - 1)
            (to + 1 - from) fits,
        high_few S name,
        stored.few,
        high,
      );
    }

module _ {x : IndexView} {name : Octets} {from to : ℕ} (there : HasRange x name from to) (place : ℕ) (gs : List Group) (g : Group)
    (named : slice_get (heads x.groups) place ≡ Some name) (shows : map shown gs ≡ map (group_index there.changes) (groups there.changes))
    (at : g ≡ get_or gs place g) where
  kept : IsKept there.changes name (shown g)
  kept = kept_at there.changes gs name place g (is_at there.changes x name place there.indexed named) shows at

  pub range_within : to ≤ length (shown g).filed
  range_within = omega (arith, kept.count, there.high)

  pub range_there : (start stop : ℕ) → start ≡ line_start (shown g).ends (from - 1) → stop ≡ get_or (shown g).ends (to - 1) 0
      → Sized there.changes name from to start stop
  range_there start stop starts stops =
      range_sized there.changes name (shown g).ends from to start stop kept.ends there.first there.order there.high starts stops
