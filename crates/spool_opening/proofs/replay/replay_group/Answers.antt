use Rattle.model.specs.Lawful.{MayMake}
use Rattle.spool_index.proofs.Callers.{no_head}
use Rattle.spool_opening.proofs.Replaying.{group_replayed}
use Rattle.spool_opening.proofs.replay.replay_group.Goals as goal

pub push_group-requires : goal.push_group-requires
push_group-requires c =
    let its = c.requires.replayed in
    no_head c.requires.changes _ c.args.group.name its.indexed
    ((c.may_make.ensures c.requires.changes its.indexed).0 c.if-not-may_make.false).new

pub returns-clause-ok : goal.returns-clause-ok
returns-clause-ok c = λ host inodes blocks R replayed its numbered shown.
    let created = c.args.group in
    let may : MayMake R created = (c.may_make.ensures R replayed.indexed).0 c.if-not-may_make.false in
    group_replayed host inodes blocks R _ _ _ _ c.args.at c.args.numbers c.args.overview created replayed its may numbered shown
    (c.in_ok-push_group.ensures.ok host R replayed.read.lawful may replayed.indexed) c.in_ok-push_group-2.ensures.ok
