use Rattle.world.specs.Fields.{news_in}
use Rattle.world.specs.World.{WorldView}
use Rattle.world.proofs.Failing.{sound_unchanged}
use Rattle.world.proofs.World.fail_at.Goals as goal

pub invariant_of-self : goal.invariant_of-self
invariant_of-self g c =
    let old : WorldView g.row.D.Denot =
    record {
      journal = c.self.inside.journal;
      served = c.self.inside.served;
      untold = news_in c.self.inside.ticket c.self.inside.is_committed c.self.inside.has_failed;
    } in
    sound_unchanged g.D.Disk.device old c.fail_at.new.self c.self.inside.ticket c.fail_at.ensures.view c.fail_at.ensures.device
    c.self.invariant
