use Rattle.std.proofs.Common.{◌≡◌, ◌+◌, ◌-◌, arith, subst}
use Rattle.model.specs.Files.{free_inodes}
use Rattle.model.proofs.Counting.{used_and_free}
use Rattle.spool.specs.View.{SpoolView}
use Rattle.spool.proofs.Spool.used_inodes.Goals as goal

pub overflow_sub-result : goal.overflow_sub-result
overflow_sub-result c =
    let s = c.self.inside in
    let kept = c.self.invariant.0 in
    omega (arith, c.self.invariant.1.left, used_and_free s.kept.inodes s.kept.volume.cache kept.is.room kept.is.held.held.rule)

pub returns : goal.returns
returns c =
    let s = c.self.inside in
    let kept = c.self.invariant.0 in
    subst (λ (x : SpoolView). s.kept.inodes - s.kept.free.inodes + free_inodes x.inodes x.blocks ≡ x.inodes) c.self.view_is
    (omega (arith, c.self.invariant.1.left, used_and_free s.kept.inodes s.kept.volume.cache kept.is.room kept.is.held.held.rule))
