use Rattle.std.proofs.Common.{◌≡◌, ◌<◌, List, Some, length, refl, sym, ◌∙◌, ap, arith}
use Rattle.std.specs.Prelude.{slice_get}
use Rattle.std.proofs.lemmas.List.{length-map}
use Rattle.std.proofs.lemmas.Option.{slice_get_read, slice_get_within}
use Rattle.model.specs.Indexed.{GroupIndex}
use Rattle.spool_groups.specs.Naming.{heads}
use Rattle.spool_groups.specs.Shown.{shown}
use Rattle.spool_texts.proofs.Filed.{filed_as, first_here, in_first, kept_whole, some_names}
use Rattle.spool_texts.proofs.Groups.{is_at}
use Rattle.spool_texts.proofs.overviews.first_filing.Goals as goal

pub bounds-names-0 : goal.bounds-names-0
bounds-names-0 c =
    let there = c.requires.there in
    some_names there.stored.host there.changes c.args.serial c.in-Some.names.now there.stored.lawful
    (c.in-Some.ensures there.changes there.indexed)

pub unreachable-requires-in_default-place : goal.unreachable-requires-in_default-place
unreachable-requires-in_default-place c =
    let there = c.requires.there in
    let names = c.in-Some.names.now in
    let name = c.as_slice.result.now in
    let says = c.in-Some.ensures there.changes there.indexed in
    let some = some_names there.stored.host there.changes c.args.serial names there.stored.lawful says in
    let named : slice_get names 0 ≡ Some name =
    slice_get_read names (length names) 0 c.index-names-0.result refl some c.index-names-0.is ∙ ap Some (sym c.as_slice.ensures) in
    first_here there.stored.host there.changes c.args.serial name there.stored.lawful
    (in_first there.changes c.args.serial names name says named)
    (sym (c.in_default-place.ensures.spool there.changes there.indexed))

pub offset_bounds-groups-group : goal.offset_bounds-groups-group
offset_bounds-groups-group c =
    let x = c.args.index.now in
    omega (
      arith,
      slice_get_within (heads x.groups) c.in-Some-place.group c.as_slice.result.now c.in-Some-place.ensures.there,
      length-map x.groups (λ (i : GroupIndex). i.group.name),
      ap (λ (l : List GroupIndex). length l) c.groups.ensures.kept,
      length-map c.groups.result.now shown,
      c.groups.type_inv.1,
    )

pub bounds-groups-group : goal.bounds-groups-group
bounds-groups-group c =
    let x = c.args.index.now in
    omega (
      arith,
      slice_get_within (heads x.groups) c.in-Some-place.group c.as_slice.result.now c.in-Some-place.ensures.there,
      length-map x.groups (λ (i : GroupIndex). i.group.name),
      ap (λ (l : List GroupIndex). length l) c.groups.ensures.kept,
      length-map c.groups.result.now shown,
    )

pub returns : goal.returns
returns c =
    let there = c.requires.there in
    let x = c.args.index.now in
    let names = c.in-Some.names.now in
    let name = c.as_slice.result.now in
    let place = c.in-Some-place.group in
    let some = some_names there.stored.host there.changes c.args.serial names there.stored.lawful
    (c.in-Some.ensures there.changes there.indexed) in
    let named : slice_get names 0 ≡ Some name =
    slice_get_read names (length names) 0 c.index-names-0.result refl some c.index-names-0.is ∙ ap Some (sym c.as_slice.ensures) in
    let low : place < length c.groups.result.now = omega (
      arith,
      slice_get_within (heads x.groups) place name c.in-Some-place.ensures.there,
      length-map x.groups (λ (i : GroupIndex). i.group.name),
      ap (λ (l : List GroupIndex). length l) c.groups.ensures.kept,
      length-map c.groups.result.now shown,
    ) in
    λ S indexed.
    let its = is_at S x name place indexed c.in-Some-place.ensures.there in
    let whole = kept_whole S c.groups.result.now name place c.index-groups-group.result its (c.groups.ensures.spool S indexed) low
    c.index-groups-group.is in
    filed_as S (shown c.index-groups-group.result) name place c.args.serial c.number_of-number.result its
    (c.in-Some-place.ensures.spool S indexed) whole c.number_of-number.ensures
    (in_first S c.args.serial names name (c.in-Some.ensures S indexed) named)
