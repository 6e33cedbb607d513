use Rattle.std.proofs.Common.{subst}
use Rattle.std.specs.Prelude.{Ok}
use Rattle.world.specs.Events.{DidStop}
use Rattle.world.specs.Fields.{news_in}
use Rattle.world.specs.World.{WorldView, with_served}
use Rattle.world.specs.declared.events.StepAnswer.TheVariants as answer
use Rattle.world.proofs.Sound.{did_stop, sound_stop}
use Rattle.world.proofs.World.stop.Goals as goal

pub invariant_of-self : goal.invariant_of-self
invariant_of-self g c =
    let old : WorldView g.row.D.Denot =
    record {
      journal = c.self.inside.journal;
      served = c.self.inside.served;
      untold = news_in c.self.inside.ticket c.self.inside.is_committed c.self.inside.has_failed;
    } in
    sound_stop old c.stop.new.self (g.D.Disk.device c.self.inside.journal.disk).tells c.self.inside.ticket c.stop.result
    c.kept.ensures.kernel c.stop.ensures.when c.stop.ensures.stops c.stop.ensures.goes_on c.self.invariant

pub returns : goal.returns
returns g c =
    let old : WorldView g.row.D.Denot =
    record {
      journal = c.self.inside.journal;
      served = c.self.inside.served;
      untold = news_in c.self.inside.ticket c.self.inside.is_committed c.self.inside.has_failed;
    } in
    subst (λ (w : WorldView g.row.D.Denot). DidStop w (Ok (answer.Stopped c.stop.result)) (with_served old c.stop.new.self)) c.self.view_is
    (did_stop old c.stop.new.self c.stop.result c.stop.ensures.when c.stop.ensures.stops c.stop.ensures.goes_on)
