use Rattle.world.specs.Fields.{news_in}
use Rattle.world.specs.World.{WorldView}
use Rattle.world.proofs.Sound.{sound_release}
use Rattle.world.proofs.World.release.Goals as goal

pub invariant_of-self : goal.invariant_of-self
invariant_of-self g c =
    let old : WorldView g.row.D.Denot =
    record {
      journal = c.self.inside.journal;
      served = c.self.inside.served;
      untold = news_in c.self.inside.ticket c.self.inside.is_committed c.self.inside.has_failed;
    } in
    sound_release (g.D.Disk.device c.self.inside.journal.disk).tells old c.release.new.self c.self.inside.ticket c.release.result
    c.kept.ensures.kernel c.release.ensures.ok c.release.ensures.err c.self.invariant
