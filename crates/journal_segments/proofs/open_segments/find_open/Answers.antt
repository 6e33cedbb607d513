use Rattle.std.proofs.Common.{rules}
use Rattle.journal_segments.proofs.Gates.{rejects_then}
use Rattle.journal_segments.proofs.open_segments.find_open.Goals as goal

pub returns-in-Err-clause-err : goal.returns-in-Err-clause-err
returns-in-Err-clause-err g c =
    rejects_then c.in-Err.error (g.D.Disk.device c.args.disk.now) (g.D.Disk.device c.loop-i.disk)
    (g.D.Disk.device c.look_at.new.disk) c.loop-i.invariant.quiet c.loop-i.invariant.still c.in-Err.ensures.err

pub loop-i-init : goal.loop-i-init
loop-i-init c = search rules
