use Rattle.std.proofs.Common.{◌∙◌, refl, subst}
use Rattle.world.specs.Fields.{news_in}
use Rattle.world.specs.World.{WorldView}
use Rattle.world.specs.Events.{DidDev, Steps}
use Rattle.world.proofs.Sound.{dev_news, sound_dev}
use Rattle.world.proofs.World.dev.Goals as goal

pub invariant_of-self : goal.invariant_of-self
invariant_of-self g c =
    let old : WorldView g.row.D.Denot =
    record {
      journal = c.self.inside.journal;
      served = c.self.inside.served;
      untold = news_in c.self.inside.ticket c.self.inside.is_committed c.self.inside.has_failed;
    } in
    let s : Steps g.D.Disk.device g.D.Disk.write_grows g.D.Disk.sync_grows c.self.inside.journal c.step-answered.result
    c.step-answered.new.self = record {
      halted = c.step-answered.ensures.halted;
      idle = c.step-answered.ensures.idle;
      call = c.step-answered.ensures.call;
      retried = c.step-answered.ensures.retried;
      no_other = c.step-answered.ensures.no_other;
      memory = c.step-answered.ensures.memory;
    } in
    let news = (λ i. news_in c.self.inside.ticket (c.commits_too-self-inside.ensures i) (c.fails_too-self-inside.ensures i))
    ∙ dev_news g.D.Disk.device old c.step-answered.new.self c.self.inside.ticket c.self.inside.is_committed c.self.inside.has_failed
    c.step-answered.result refl s c.self.invariant in
    sound_dev g.D.Disk.device old c.step-answered.new.self c.self.inside.ticket _ c.step-answered.result news s c.self.invariant

pub returns : goal.returns
returns g c =
    let old : WorldView g.row.D.Denot =
    record {
      journal = c.self.inside.journal;
      served = c.self.inside.served;
      untold = news_in c.self.inside.ticket c.self.inside.is_committed c.self.inside.has_failed;
    } in
    let s : Steps g.D.Disk.device g.D.Disk.write_grows g.D.Disk.sync_grows c.self.inside.journal c.step-answered.result
    c.step-answered.new.self = record {
      halted = c.step-answered.ensures.halted;
      idle = c.step-answered.ensures.idle;
      call = c.step-answered.ensures.call;
      retried = c.step-answered.ensures.retried;
      no_other = c.step-answered.ensures.no_other;
      memory = c.step-answered.ensures.memory;
    } in
    let news = (λ i. news_in c.self.inside.ticket (c.commits_too-self-inside.ensures i) (c.fails_too-self-inside.ensures i))
    ∙ dev_news g.D.Disk.device old c.step-answered.new.self c.self.inside.ticket c.self.inside.is_committed c.self.inside.has_failed
    c.step-answered.result refl s c.self.invariant in
    subst (λ (w : WorldView g.row.D.Denot). DidDev g.D.Disk.device g.D.Disk.write_grows g.D.Disk.sync_grows w c.dev_answer.result
    (record {
      journal = c.step-answered.new.self;
      served = c.self.inside.served;
      untold = news_in c.self.inside.ticket c.commits_too-self-inside.result c.fails_too-self-inside.result;
    })) c.self.view_is
    (record { answered = c.step-answered.result; steps = s; result_is = c.dev_answer.ensures; untold = news; served = refl })
