use Rattle.std.proofs.Common.{◌≡◌, ◌^◌, ap, arith, get_or}
use Rattle.spool_groups.proofs.Steps.{end_at}
use Rattle.spool_groups.specs.Filing.{end_of}
use Rattle.spool_groups.specs.Shown.{shown}
use Rattle.volume_states.proofs.contents.statuses.Goals as goal

pub status_of-requires : goal.status_of-requires
status_of-requires c =
    let low = end_at (2 ^ 32) c.args.groups.now c.loop-group.group-index c.group-item.result c.loop-group-test.true c.requires in
    let same : end_of (shown c.group-item.result) ≡ end_of (shown (get_or c.args.groups.now c.loop-group.group-index c.group-item.result)) =
    ap (λ g. end_of (shown g)) c.group-item.is in
    omega (arith, low, same)
