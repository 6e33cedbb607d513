use Rattle.std.proofs.Common.{◌≡◌, subst}
use Rattle.model.specs.Files.{free_blocks}
use Rattle.spool.specs.View.{SpoolView}
use Rattle.spool.proofs.Spool.free_blocks.Goals as goal

pub returns : goal.returns
returns c =
    let s = c.self.inside in
    subst (λ (x : SpoolView). s.kept.free.blocks ≡ free_blocks x.blocks) c.self.view_is c.self.invariant.1.count
