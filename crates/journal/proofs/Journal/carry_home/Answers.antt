use Rattle.std.proofs.Common.{◌≡◌, ◌≢◌, ◌∙◌, ap}
use Rattle.journal.specs.Journal.{JournalView}
use Rattle.journal.specs.declared.Next.TheVariants.{Idle}
use Rattle.journal.proofs.During.{at_first_home, on_the_way, stepped_on, fewer}
use Rattle.journal.proofs.Journal.carry_home.Goals as goal

-- a journal whose next call is not none
flies : (D : Type 0) (v w : JournalView D) → v ≡ w → v.next ≢ Idle → w.next ≢ Idle
flies D v w is other e = other (ap (λ (x : JournalView D). x.next) is ∙ e)

pub loop-self-init : goal.loop-self-init
loop-self-init g c = at_first_home g.D.Disk.device _ c.requires.next c.requires.running c.requires.now

pub loop-self-preserved : goal.loop-self-preserved
loop-self-preserved g c =
    let other = flies g.row.D.Denot _ _ c.self.view_is (c.is_idle.ensures.no c.loop-self-test.true) in
    on_the_way g.D.Disk.device _ _ _ c.loop-self.invariant other c.in_ok-step.field-0
    (c.in_ok-step.ensures.call c.loop-self.invariant.running other)

pub loop-self-smaller : goal.loop-self-smaller
loop-self-smaller g c =
    let other = flies g.row.D.Denot _ _ c.self.view_is (c.is_idle.ensures.no c.loop-self-test.true) in
    fewer g.D.Disk.device _ _ _ c.loop-self.invariant other c.in_ok-step.field-0
    (c.in_ok-step.ensures.call c.loop-self.invariant.running other)

pub returns-in_err-step-clause-during : goal.returns-in_err-step-clause-during
returns-in_err-step-clause-during g c =
    let other = flies g.row.D.Denot _ _ c.self.view_is (c.is_idle.ensures.no c.loop-self-test.true) in
    stepped_on g.D.Disk.device _ _ _ c.loop-self.invariant other c.step.result (c.step.ensures.call c.loop-self.invariant.running other)
    (c.step.ensures.retried c.loop-self.invariant.running other) (c.step.ensures.no_other c.loop-self.invariant.running)
