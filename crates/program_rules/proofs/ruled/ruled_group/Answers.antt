use Rattle.session_lookups.specs.Held.{shown}
use Rattle.std.proofs.Common.{sym}
use Rattle.program_rules.proofs.Places.{ruled}
use Rattle.program_rules.proofs.ruled.ruled_group.Goals as goal

pub returns : goal.returns
returns g c =
    ruled (g.L.LookUps.changes c.args.spool.now) c.args.place c.args.rules.now c.args.now (shown c.group_at-group.result)
    c.group_at-group.ensures c.in-Some.wildmat.now c.in-Some.days c.since.result c.aged_group.result c.since.ensures
    (sym c.in-Some.ensures) c.aged_group.ensures
