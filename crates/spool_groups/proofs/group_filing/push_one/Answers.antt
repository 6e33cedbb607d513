use Rattle.std.proofs.Common.{◌^◌, arith, map}
use Rattle.spool_groups.specs.Filing.{with_line}
use Rattle.spool_groups.specs.Shown.{shown}
use Rattle.spool_groups.proofs.Steps.{changed_nowhere, changed_there, end_at, room_pushed}
use Rattle.spool_groups.proofs.group_filing.push_one.Goals as goal

pub file-requires-clause-fits : goal.file-requires-clause-fits
file-requires-clause-fits c =
    let low = end_at (2 ^ 63) c.args.groups.now c.in-Some.place c.index-groups-place.result c.in-Some.ensures.0 c.requires.fits in
    omega (arith, low, c.requires.small)

pub returns-in-Some-clause-filed : goal.returns-in-Some-clause-filed
returns-in-Some-clause-filed c =
    changed_there c.args.groups.now c.args.places.now c.args.name.now c.in-Some.place c.file.new.self c.index-groups-place.result
    (with_line c.args.serial c.args.size) c.requires.named c.in-Some.ensures.1 c.file.ensures.filed

pub returns-in-Some-clause-room : goal.returns-in-Some-clause-room
returns-in-Some-clause-room c =
    λ q more before. room_pushed c.args.places.now c.args.groups.now c.in-Some.place c.file.new.self c.index-groups-place.result q more
    c.in-Some.ensures.0 c.file.ensures.len c.file.ensures.room before

pub returns-in_default-clause-filed : goal.returns-in_default-clause-filed
returns-in_default-clause-filed c =
    changed_nowhere (map shown c.args.groups.now) c.args.places.now c.args.name.now (with_line c.args.serial c.args.size) c.requires.named
    c.in_default.ensures
