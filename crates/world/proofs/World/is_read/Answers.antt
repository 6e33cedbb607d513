use Rattle.std.proofs.Common.{subst}
use Rattle.world.specs.Reading.{AreRead}
use Rattle.world.specs.World.{WorldView}
use Rattle.world.proofs.Reading.{are_read}
use Rattle.world.proofs.World.is_read.Goals as goal

pub returns : goal.returns
returns g c =
    subst (λ (w : WorldView g.row.D.Denot). AreRead w.served) c.self.view_is
    (are_read c.self.inside.served c.self.inside.journal.label c.self.invariant.tied.label c.kept.ensures.served c.kept.ensures.kernel
    c.kept.ensures.marks)
