use Rattle.std.proofs.Common.{◌≡◌, ◌<◌, ℕ, ◌+◌, List, length, get_or, ◌∙◌, ap, arith}
use Rattle.std.specs.Prelude.{slice_get}
use Rattle.std.proofs.lemmas.List.{length-map}
use Rattle.model.specs.Article.{overview_line}
use Rattle.model.specs.Indexed.{GroupIndex, group_index}
use Rattle.model.specs.Spool.{group_named, groups}
use Rattle.model.specs.SpoolFiles.{number_record}
use Rattle.spool_groups.specs.Shown.{shown}
use Rattle.spool_reading.proofs.Groups.{groups_few}
use Rattle.spool_growing.proofs.Adding.{are_its_pieces, filed_here, indexed_at, is_at, its_place, never_absent, numbers_at}
use Rattle.spool_growing.proofs.Adding.{overview_at, place_below, read_place, same_count, short_end, short_line}
use Rattle.spool_growing.proofs.Held.{changes_are_few}
use Rattle.spool_growing.proofs.index_lines.line_in.Goals as goal

pub unreachable-requires : goal.unreachable-requires
unreachable-requires c =
    let can = c.requires.can in
    never_absent can.changes c.args.name.now c.place.result (c.place.ensures.spool can.changes can.indexed)
    (filed_here can.host can.changes _ c.args.name.now can.may c.requires.has)
    c.in_default.is

pub offset_bounds-groups-place : goal.offset_bounds-groups-place
offset_bounds-groups-place c =
    let can = c.requires.can in
    let same = c.in-Some.ensures.spool can.changes can.indexed in
    let low = place_below c.args.index.now c.args.places.now c.args.overview.now c.args.name.now c.requires c.in-Some.place same in
    omega (arith, low, groups_few can.changes, changes_are_few can.host can.inodes can.blocks can.changes can.is)

pub bounds-groups-place : goal.bounds-groups-place
bounds-groups-place c =
    let can = c.requires.can in
    let same = c.in-Some.ensures.spool can.changes can.indexed in
    let low = place_below c.args.index.now c.args.places.now c.args.overview.now c.args.name.now c.requires c.in-Some.place same in
    omega (
      arith,
      low,
      ap (λ (l : List GroupIndex). length l) (c.groups.ensures.spool can.changes can.indexed),
      length-map c.groups.result.now shown,
      length-map (groups can.changes) (group_index can.changes),
    )

pub overflow_cast-overview_size : goal.overflow_cast-overview_size
overflow_cast-overview_size c =
    let can = c.requires.can in
    let same = c.in-Some.ensures.spool can.changes can.indexed in
    let its = its_place c.args.index.now c.args.places.now c.args.overview.now c.args.name.now c.requires c.in-Some.place same in
    let is = read_place c.args.index.now c.args.places.now c.args.overview.now c.args.name.now c.requires c.in-Some.place same shown
    c.groups.result.now c.index-groups-place.result (c.groups.ensures.spool can.changes can.indexed) c.index-groups-place.is in
    omega (
      arith,
      c.overview_size.ensures,
      short_end c.args.index.now c.args.places.now c.args.overview.now c.requires.filed can c.args.name.now c.in-Some.place its
          (shown c.index-groups-place.result) is,
    )

pub returns-clause-short : goal.returns-clause-short
returns-clause-short c =
    let can = c.requires.can in
    let same = c.in-Some.ensures.spool can.changes can.indexed in
    let its = its_place c.args.index.now c.args.places.now c.args.overview.now c.args.name.now c.requires c.in-Some.place same in
    let is = read_place c.args.index.now c.args.places.now c.args.overview.now c.args.name.now c.requires c.in-Some.place same shown
    c.groups.result.now c.index-groups-place.result (c.groups.ensures.spool can.changes can.indexed) c.index-groups-place.is in
    short_line c.args.index.now c.args.places.now c.args.overview.now c.requires.filed can c.args.name.now c.in-Some.place its
    (shown c.index-groups-place.result) c.in_ok-line.line.items is
    (c.in_ok-line.ensures ∙ ap (λ (n : ℕ). overview_line (n + 1) c.args.overview.now) c.high.ensures)

pub number_record-record-requires : goal.number_record-record-requires
number_record-record-requires c =
    let can = c.requires.can in
    let same = c.in-Some.ensures.spool can.changes can.indexed in
    let its = its_place c.args.index.now c.args.places.now c.args.overview.now c.args.name.now c.requires c.in-Some.place same in
    let is = read_place c.args.index.now c.args.places.now c.args.overview.now c.args.name.now c.requires c.in-Some.place same shown
    c.groups.result.now c.index-groups-place.result (c.groups.ensures.spool can.changes can.indexed) c.index-groups-place.is in
    omega (
      arith,
      ap (λ (l : List ℕ). length l) c.deref.ensures.value,
      short_line c.args.index.now c.args.places.now c.args.overview.now c.requires.filed can c.args.name.now c.in-Some.place its
          (shown c.index-groups-place.result) c.in_ok-line.line.items is
          (c.in_ok-line.ensures ∙ ap (λ (n : ℕ). overview_line (n + 1) c.args.overview.now) c.high.ensures),
    )

pub offset_bounds-numbers-place : goal.offset_bounds-numbers-place
offset_bounds-numbers-place c =
    let can = c.requires.can in
    let same = c.in-Some.ensures.spool can.changes can.indexed in
    let low = place_below c.args.index.now c.args.places.now c.args.overview.now c.args.name.now c.requires c.in-Some.place same in
    omega (arith, low, groups_few can.changes, changes_are_few can.host can.inodes can.blocks can.changes can.is)

pub bounds-numbers-place : goal.bounds-numbers-place
bounds-numbers-place c =
    let can = c.requires.can in
    let same = c.in-Some.ensures.spool can.changes can.indexed in
    let its = its_place c.args.index.now c.args.places.now c.args.overview.now c.args.name.now c.requires c.in-Some.place same in
    omega (
      arith,
      (numbers_at can.inodes can.blocks can.changes c.args.places.now c.args.name.now c.in-Some.place its can.placed).0,
      ap (λ (l : List ℕ). length l) c.numbers.ensures,
    )

pub offset_bounds-overviews-place : goal.offset_bounds-overviews-place
offset_bounds-overviews-place c =
    let can = c.requires.can in
    let same = c.in-Some.ensures.spool can.changes can.indexed in
    let low = place_below c.args.index.now c.args.places.now c.args.overview.now c.args.name.now c.requires c.in-Some.place same in
    omega (arith, low, groups_few can.changes, changes_are_few can.host can.inodes can.blocks can.changes can.is)

pub bounds-overviews-place : goal.bounds-overviews-place
bounds-overviews-place c =
    let can = c.requires.can in
    let same = c.in-Some.ensures.spool can.changes can.indexed in
    let its = its_place c.args.index.now c.args.places.now c.args.overview.now c.args.name.now c.requires c.in-Some.place same in
    omega (
      arith,
      (overview_at can.inodes can.blocks can.changes c.args.places.now c.args.name.now c.in-Some.place its can.placed).0,
      ap (λ (l : List ℕ). length l) c.overviews.ensures,
    )

pub returns-clause-pieces : goal.returns-clause-pieces
returns-clause-pieces c = λ S indexed count inodes blocks placed.
    let can = c.requires.can in
    let low : c.in-Some.place < length (groups S) =
    omega (
      arith,
      place_below c.args.index.now c.args.places.now c.args.overview.now c.args.name.now c.requires c.in-Some.place
          (c.in-Some.ensures.spool can.changes can.indexed),
      same_count can.changes S c.args.index.now can.indexed indexed,
    ) in
    let same : slice_get (groups S) c.in-Some.place ≡ group_named S c.args.name.now = c.in-Some.ensures.spool S indexed in
    let its = is_at S c.args.name.now c.in-Some.place low same in
    let i = shown c.index-groups-place.result in
    are_its_pieces inodes blocks S c.args.places.now c.args.overview.now c.args.name.now c.in-Some.place c.args.serial its i _ _ placed
    (indexed_at shown c.groups.result.now S c.args.name.now c.in-Some.place c.index-groups-place.result its
    (c.groups.ensures.spool S indexed) low c.index-groups-place.is)
    count
    (ap (λ (l : List ℕ). get_or l c.in-Some.place 0) c.numbers.ensures)
    (ap (λ (l : List ℕ). get_or l c.in-Some.place 0) c.overviews.ensures)
    (c.in_ok-from_slice.ensures.items ∙ c.number_record-record.ensures
    ∙ (λ j. number_record c.args.serial (c.overview_size.ensures j) (c.deref.ensures.value j)))
    (c.in_ok-line.ensures ∙ ap (λ (n : ℕ). overview_line (n + 1) c.args.overview.now) c.high.ensures)
