use Rattle.model.specs.Lawful.{MayExpire}
use Rattle.model.specs.declared.change.Expiry.{Expiry}
use Rattle.spool_opening.proofs.Replaying.{expiry_replayed}
use Rattle.spool_opening.proofs.replay.replay_expiry.Goals as goal

pub returns-clause-ok : goal.returns-clause-ok
returns-clause-ok c = λ host inodes blocks R replayed its.
    let expiry : Expiry = record { group = c.args.group.now; number = c.args.number } in
    let may : MayExpire R expiry = (c.may_expire.ensures R replayed.indexed).0 c.if-not-may_expire.false in
    expiry_replayed host inodes blocks R _ _ _ _ c.args.place expiry replayed its may
    (c.in_ok-push_expiry.ensures.ok host R may replayed.indexed) c.in_ok-push_change.ensures.ok
