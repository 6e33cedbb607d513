use Rattle.std.proofs.Common.{◌≡◌, ℕ, ◌<◌, ◌≤◌, []}
use Rattle.model.specs.Files.{entry_of, pointer}
use Rattle.fs_check.proofs.entry.ends_at.Given as goal

abbrev pub invariant-loop-i : goal.invariant-loop-i
invariant-loop-i g l = (i : ℕ) → l.from ≤ i → i < l.i → pointer (entry_of (g.B.Blocks.blocks l.blocks) l.inode []) i ≡ 0
