use Rattle.disk_memory.proofs.Syncing.{IsSyncedTo}
use Rattle.disk_memory.proofs.blocks.sync_marked.Given as goal

abbrev pub invariant-loop-block : goal.invariant-loop-block
invariant-loop-block l = IsSyncedTo l.block l.marks.blocks.items l.present l.synced.items l.touched.items
