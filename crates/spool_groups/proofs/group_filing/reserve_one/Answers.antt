use Rattle.std.proofs.Math.Seq.{map-set_same}
use Rattle.spool_groups.specs.Shown.{shown}
use Rattle.spool_groups.proofs.Steps.{ok_map, room_kept, room_there}
use Rattle.spool_groups.proofs.group_filing.reserve_one.Goals as goal

pub returns-in-Some-clause-same : goal.returns-in-Some-clause-same
returns-in-Some-clause-same c =
    map-set_same shown c.args.groups.now c.in-Some.place c.reserve.new.self c.index-groups-place.result c.reserve.ensures.same

pub returns-in-Some-clause-room : goal.returns-in-Some-clause-room
returns-in-Some-clause-room c =
    ok_map c.reserve.result (λ room. room_there c.args.places.now c.args.groups.now c.in-Some.place c.reserve.new.self c.args.name.now
    c.args.more c.in-Some.ensures.1 c.in-Some.ensures.0 room) c.reserve.ensures.room

pub returns-in-Some-clause-kept : goal.returns-in-Some-clause-kept
returns-in-Some-clause-kept c =
    ok_map c.reserve.result (λ room q before. room_kept c.args.places.now c.args.groups.now c.in-Some.place c.reserve.new.self q c.args.more
    before room) c.reserve.ensures.room
