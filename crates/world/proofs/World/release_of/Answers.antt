use Rattle.world.specs.Fields.{news_in}
use Rattle.world.specs.World.{WorldView}
use Rattle.world.proofs.Sound.{sound_release_of}
use Rattle.world.proofs.World.release_of.Goals as goal

pub invariant_of-self : goal.invariant_of-self
invariant_of-self g c =
    let old : WorldView g.row.D.Denot =
    record {
      journal = c.self.inside.journal;
      served = c.self.inside.served;
      untold = news_in c.self.inside.ticket c.self.inside.is_committed c.self.inside.has_failed;
    } in
    sound_release_of (g.D.Disk.device c.self.inside.journal.disk).tells old c.release_of.new.self c.args.number c.args.room
    c.self.inside.ticket
    c.release_of.result c.kept.ensures.kernel c.release_of.ensures.ok c.release_of.ensures.err c.self.invariant
