use Rattle.std.proofs.Common.{◌-◌}
use Rattle.model.specs.Files.{table}
use Rattle.spool_reading.proofs.Members.{AreCounted}
use Rattle.spool_reading.proofs.packs.count_members.Given as goal

-- those before this place
abbrev pub invariant-loop-from : goal.invariant-loop-from
invariant-loop-from g l = AreCounted (table l.inodes (g.B.Blocks.blocks l.blocks)) l.pack.inode l.pack.size l.from l.count

abbrev pub decreases-loop-from : goal.decreases-loop-from
decreases-loop-from g l = l.pack.size - l.from
