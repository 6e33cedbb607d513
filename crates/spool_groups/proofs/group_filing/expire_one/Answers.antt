use Rattle.std.proofs.Common.{map}
use Rattle.std.proofs.Math.Seq.{map-set_same}
use Rattle.spool_groups.specs.Shown.{shown}
use Rattle.spool_groups.proofs.Steps.{changed_nowhere, changed_there, err_map, expired_by, ok_map}
use Rattle.spool_groups.proofs.group_filing.expire_one.Goals as goal

pub returns-in-Some-clause-ok : goal.returns-in-Some-clause-ok
returns-in-Some-clause-ok c =
    ok_map c.expire.result (λ new_is. changed_there c.args.groups.now c.args.places.now c.args.name.now c.in-Some.place c.expire.new.self
    c.index-groups-place.result (expired_by c.args.serial c.args.number) c.requires.named c.in-Some.ensures.1 new_is)
    c.expire.ensures.ok

pub returns-in-Some-clause-err : goal.returns-in-Some-clause-err
returns-in-Some-clause-err c =
    err_map c.expire.result (λ same. map-set_same shown c.args.groups.now c.in-Some.place c.expire.new.self c.index-groups-place.result
    same) c.expire.ensures.err

pub returns-in-None-clause-ok : goal.returns-in-None-clause-ok
returns-in-None-clause-ok c = changed_nowhere (map shown c.args.groups.now) c.args.places.now c.args.name.now
    (expired_by c.args.serial c.args.number) c.requires.named c.in-None.ensures
