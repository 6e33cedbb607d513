use Rattle.model.specs.declared.change.Change.TheVariants.{Group}
use Rattle.text_names.specs.Requests.{group_of}
use Rattle.program_changes.proofs.Added.{full_one, goes_added, goes_still, here_one, made_one, refused_one}
use Rattle.program_changes.proofs.listed.add_listed.Goals as goal

pub returns-in-Err-clause-ok : goal.returns-in-Err-clause-ok
returns-in-Err-clause-ok g c = refused_one c.args.store.now.spool c.args.listed.now c.in-Err.fault c.in-Err.is

pub returns-in-Ok-add_group-clause-ok : goal.returns-in-Ok-add_group-clause-ok
returns-in-Ok-add_group-clause-ok g c =
    made_one c.args.store.now.spool c.make_room.new.self.spool c.add_group.new.self.spool c.make_room.ensures.spool
    c.args.listed.now c.in-Ok.request c.in-Ok.is c.in-Ok-add_group.serial c.in-Ok-add_group.ensures.tested.0
    c.in-Ok-add_group.ensures.tested.1

pub returns-in-Ok-add_group-clause-goes_on : goal.returns-in-Ok-add_group-clause-goes_on
returns-in-Ok-add_group-clause-goes_on g c =
    goes_added g.D.Disk.device c.args.store.now c.make_room.new.self c.add_group.new.self c.make_room.ensures.goes_on
    (Group (group_of c.in-Ok.request)) c.add_group.ensures.journal c.add_group.ensures.durable
    c.in-Ok-add_group.ensures.tested.1.1

pub returns-in-Err-Exists-clause-ok : goal.returns-in-Err-Exists-clause-ok
returns-in-Err-Exists-clause-ok g c =
    here_one c.args.store.now.spool c.make_room.new.self.spool c.add_group.new.self.spool c.make_room.ensures.spool
    c.args.listed.now c.in-Ok.request c.in-Ok.is c.in-Err-Exists.field-0 c.in-Err-Exists.field-0-is
    c.in-Err-Exists.ensures.tested.0 c.in-Err-Exists.ensures.tested.1

pub returns-in-Err-Exists-clause-goes_on : goal.returns-in-Err-Exists-clause-goes_on
returns-in-Err-Exists-clause-goes_on g c =
    goes_still g.D.Disk.device c.args.store.now c.make_room.new.self c.add_group.new.self c.make_room.ensures.goes_on
    c.add_group.ensures.journal c.add_group.ensures.durable c.in-Err-Exists.ensures.tested.1

pub returns-in-Err-Full-clause-ok : goal.returns-in-Err-Full-clause-ok
returns-in-Err-Full-clause-ok g c =
    full_one c.args.store.now.spool c.make_room.new.self.spool c.add_group.new.self.spool c.make_room.ensures.spool
    c.args.listed.now c.in-Ok.request c.in-Ok.is c.in-Err-Full.field-0 c.in-Err-Full.field-0-is
    c.in-Err-Full.ensures.tested.0 c.in-Err-Full.ensures.tested.1
