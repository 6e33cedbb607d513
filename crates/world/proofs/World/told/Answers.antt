use Rattle.std.proofs.Common.{◌≡◌, refl, rules, []}
use Rattle.world.specs.Fields.{durable_news, news_in}
use Rattle.world.specs.World.{WorldView}
use Rattle.world.proofs.Sound.{sound_told_failed}
use Rattle.world.proofs.World.told.Goals as goal

pub invariant_of-self : goal.invariant_of-self
invariant_of-self g c =
    let old : WorldView g.row.D.Denot =
    record {
      journal = c.self.inside.journal;
      served = c.self.inside.served;
      untold = news_in c.self.inside.ticket c.self.inside.is_committed c.self.inside.has_failed;
    } in
    let none : durable_news c.self.inside.ticket c.self.inside.is_committed ≡ [] = search rules in
    (sound_told_failed (g.D.Disk.device c.self.inside.journal.disk).tells old c.halt.new.self c.self.inside.ticket
    c.self.inside.is_committed c.self.inside.has_failed refl none c.if-not-self.false c.halt.ensures c.self.invariant).0
