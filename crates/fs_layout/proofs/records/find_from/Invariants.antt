use Rattle.std.proofs.Common.{◌≢◌, ℕ, ◌<◌, ◌*◌}
use Rattle.model.specs.Files.{slot_of}
use Rattle.fs_layout.proofs.records.find_from.Given as goal

abbrev pub invariant-loop-table : goal.invariant-loop-table
invariant-loop-table g l = (j : ℕ) → j < 64 * l.table → slot_of l.inodes (g.B.Blocks.blocks l.blocks) j ≢ l.slot
