use Rattle.std.proofs.Common.{arith}
use Rattle.disk_cache.proofs.Blocks.{next_run}
use Rattle.disk_cache.proofs.giving.next_run.Goals as goal

pub returns-clause-some : goal.returns-clause-some
returns-clause-some c =
    next_run c.args.slots.now.fills.now c.args.slots.now.flags.now c.args.from c.next_at-start.result c.next_at.result
    c.next_at-start.ensures.low (omega (arith, c.next_at-start.ensures.high)) c.next_at-start.ensures.found c.next_at-start.ensures.none
    c.next_at.ensures.low c.next_at.ensures.high c.next_at.ensures.none c.next_at.ensures.found
