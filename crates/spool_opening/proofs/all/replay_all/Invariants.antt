use Rattle.spool_opening.specs.Replayed.{AreReplayedTo}
use Rattle.spool_opening.proofs.all.replay_all.Given as goal

-- those of the slots so far
abbrev pub invariant-loop-done : goal.invariant-loop-done
invariant-loop-done g l = AreReplayedTo l.host l.inodes (g.B.Blocks.blocks l.blocks) l.replay.index l.replay.places l.done
