use Rattle.std.proofs.Common.{◌≡◌, false, refl, sym, ◌∙◌, ap, subst, arith}
use Rattle.model.specs.Volume.{epoch_in, number_at}
use Rattle.journal_segments.specs.Staged.{Staged}
use Rattle.journal.proofs.Flights.{answered, closings_last, gate_within, home_within}
use Rattle.journal.specs.Flight.{are_all, flight_in}
use Rattle.journal.specs.Inside.{IsLive, superblock_after}
use Rattle.journal.specs.declared.Next.{Next}
use Rattle.journal.specs.Journal.{IsIdle}
use Rattle.journal.proofs.Made.{kept_ok, kept_err, made_ok, made_err, retried, retried_kept, super_is}
use Rattle.journal.proofs.Journal.step.Given.{Over}
use Rattle.journal.proofs.Journal.step.Goals as goal
use Rattle.journal.proofs.Journal.step.Goals.{After-read_epoch-epoch, After-answer_to}

-- the epoch that was read is the one in memory
epoch_is : (g : Over) (c : After-read_epoch-epoch g) → c.read_epoch-epoch.result ≡ epoch_in c.self.inside.superblock.items
epoch_is g c = c.read_epoch-epoch.ensures.epoch ∙ ap epoch_in c.deref.ensures.value

-- a call is asked for by a journal that runs and isn't idle
running : (g : Over) (c : After-read_epoch-epoch g) → (c.args.self.now.halted ≡ false) × (IsIdle c.args.self.now → ⊥)
running g c = rw (← c.self.view_is) (c.if-self.false, c.is_idle.ensures.no c.if-is_idle.false)

super_then : (g : Over) (c : After-answer_to g) → c.keep_epoch.new.superblock.items
    ≡ superblock_after (are_all (flight_in c.self.inside.room.items c.self.inside.filled c.self.inside.is_last))
    (epoch_in c.self.inside.superblock.items) c.self.inside.next c.self.inside.superblock.items
super_then g c =
    super_is _ c.self.inside.room.items c.self.inside.filled c.self.inside.is_last c.read_epoch-epoch.result c.are_all-all.result _
    c.self.inside.next c.self.invariant.there (epoch_is g (goal.at.invariant_of-self g c).After-read_epoch-epoch) c.are_all-all.ensures
    c.keep_epoch.ensures

pub ask-requires-clause-carried : goal.ask-requires-clause-carried
ask-requires-clause-carried g c =
    home_within c.self.inside.room.items c.self.inside.filled c.self.inside.is_last c.self.invariant.there _ c.self.inside.next
    c.self.invariant.within

pub ask-requires-clause-home : goal.ask-requires-clause-home
ask-requires-clause-home g c j i is =
    let within = ask-requires-clause-carried g c j i is in
    let live = subst (λ (n : Next). IsLive c.self.inside.is_last n) (sym is) tt in
    let below = (c.self.invariant.staged live j within.0).sound.below i 0 within.1 in
    omega (arith, c.self.invariant.size, below)

pub ask-requires-clause-gate : goal.ask-requires-clause-gate
ask-requires-clause-gate g c j is =
    let low = gate_within c.self.inside.room.items c.self.inside.filled c.self.inside.is_last c.self.invariant.there _ c.self.inside.next
    c.self.invariant.within j is in
    let live = subst (λ (n : Next). IsLive c.self.inside.is_last n) (sym is) tt in
    (low, c.self.invariant.places live j low)

pub invariant_of-self : goal.invariant_of-self
invariant_of-self g c = rw c.if-self.false
    (kept_ok g.row.D.Denot g.D.Disk.device g.D.Disk.write_grows g.D.Disk.sync_grows c.self.inside.disk c.ask.new.disk _ _ _ _ _
    (g.met.D.Disk.counts_content c.ask.new.disk) _ (epoch_is g (goal.at.invariant_of-self g c).After-read_epoch-epoch)
    _ _ _ _ c.if-self.false (c.is_idle.ensures.no c.if-is_idle.false) c.self.invariant c.call_after-self-inside.ensures
    c.in-Ok.ensures.does _ (super_then g c))

pub invariant_of-self-in-Err-Fault : goal.invariant_of-self-in-Err-Fault
invariant_of-self-in-Err-Fault g c =
    kept_err g.row.D.Denot g.D.Disk.device g.D.Disk.write_grows g.D.Disk.sync_grows c.self.inside.disk c.ask.new.disk _ _ _ _ _
    (g.met.D.Disk.counts_content c.ask.new.disk) _ (epoch_is g (goal.at.invariant_of-self-in-Err-Fault g c).After-read_epoch-epoch)
    _ _ _ _ c.if-self.false (c.is_idle.ensures.no c.if-is_idle.false) c.self.invariant
    c.call_at_fault-self-inside.ensures c.in-Err-Fault.ensures.does

pub returns-in-Ok-clause-call : goal.returns-in-Ok-clause-call
returns-in-Ok-clause-call g c =
    rw (← c.self.view_is)
    (λ running other.
    made_ok g.row.D.Denot g.D.Disk.device g.D.Disk.write_grows g.D.Disk.sync_grows c.self.inside.disk c.ask.new.disk _ _ _ _ _
    (g.met.D.Disk.counts_content c.ask.new.disk) _ (epoch_is g (goal.at.returns-in-Ok-clause-call g c).After-read_epoch-epoch)
    _ _ _ _ _ c.if-self.false (c.is_idle.ensures.no c.if-is_idle.false) c.self.invariant c.call_after-self-inside.ensures
    (answered c.self.inside.room.items c.self.inside.filled c.self.inside.is_last c.self.invariant.there c.last-last.result _
    c.closings.result c.self.inside.next c.answer_to.result (c.last-last.ensures
    ∙ ap (λ (s : Staged). number_at 8 8 s.descriptor) c.segment_at.ensures)
    (λ last. c.closings.ensures.count ∙ closings_last c.self.inside.room.items c.self.inside.filled c.self.inside.is_last last)
    c.self.invariant.within c.answer_to.ensures)
    c.in-Ok.ensures.does _ (super_then g c))

pub returns-in-Ok-clause-now : goal.returns-in-Ok-clause-now
returns-in-Ok-clause-now g c =
    let is = running g (goal.at.returns-in-Ok-clause-now g c).After-read_epoch-epoch in
    (returns-in-Ok-clause-call g c is.0 is.1).now

pub returns-in-Ok-clause-since : goal.returns-in-Ok-clause-since
returns-in-Ok-clause-since g c =
    let is = running g (goal.at.returns-in-Ok-clause-since g c).After-read_epoch-epoch in
    (returns-in-Ok-clause-call g c is.0 is.1).since

pub returns-in-Err-Fault-clause-call : goal.returns-in-Err-Fault-clause-call
returns-in-Err-Fault-clause-call g c =
    rw (← c.self.view_is)
    (λ running other is.
    made_err g.row.D.Denot g.D.Disk.device g.D.Disk.write_grows g.D.Disk.sync_grows c.self.inside.disk c.ask.new.disk _ _ _ _ _
    (g.met.D.Disk.counts_content c.ask.new.disk) _ (epoch_is g (goal.at.returns-in-Err-Fault-clause-call g c).After-read_epoch-epoch)
    _ _ _ _ c.in-Err-Fault.field-0-is c.if-self.false (c.is_idle.ensures.no c.if-is_idle.false) c.self.invariant
    c.call_at_fault-self-inside.ensures c.in-Err-Fault.ensures.does)

pub returns-in-Err-Fault-clause-now : goal.returns-in-Err-Fault-clause-now
returns-in-Err-Fault-clause-now g c =
    let is = running g (goal.at.returns-in-Err-Fault-clause-now g c).After-read_epoch-epoch in
    (returns-in-Err-Fault-clause-call g c is.0 is.1 refl).now

pub returns-in-Err-Fault-clause-since : goal.returns-in-Err-Fault-clause-since
returns-in-Err-Fault-clause-since g c =
    let is = running g (goal.at.returns-in-Err-Fault-clause-since g c).After-read_epoch-epoch in
    (returns-in-Err-Fault-clause-call g c is.0 is.1 refl).since

pub invariant_of-self-in-Err-Memory : goal.invariant_of-self-in-Err-Memory
invariant_of-self-in-Err-Memory g c =
    retried_kept g.row.D.Denot g.D.Disk.device g.D.Disk.write_grows g.D.Disk.sync_grows c.self.inside.disk c.ask.new.disk _ _ _ _ _
    (g.met.D.Disk.counts_content c.ask.new.disk) _ (epoch_is g (goal.at.invariant_of-self-in-Err-Memory g c).After-read_epoch-epoch)
    _ _ _ c.in-Err-Memory.field-0-is c.self.invariant c.in-Err-Memory.ensures.does

pub returns-in-Err-Memory-clause-retried : goal.returns-in-Err-Memory-clause-retried
returns-in-Err-Memory-clause-retried g c =
    rw (← c.self.view_is)
    (λ running other is.
    retried g.row.D.Denot g.D.Disk.device g.D.Disk.write_grows g.D.Disk.sync_grows c.self.inside.disk c.ask.new.disk _ _ _ _ _
    (g.met.D.Disk.counts_content c.ask.new.disk) _ (epoch_is g (goal.at.returns-in-Err-Memory-clause-retried g c).After-read_epoch-epoch)
    _ _ _ c.in-Err-Memory.field-0-is c.self.invariant c.in-Err-Memory.ensures.does)

pub returns-in-Err-Memory-clause-now : goal.returns-in-Err-Memory-clause-now
returns-in-Err-Memory-clause-now g c =
    let is = running g (goal.at.returns-in-Err-Memory-clause-now g c).After-read_epoch-epoch in
    (returns-in-Err-Memory-clause-retried g c is.0 is.1 refl).now

pub returns-in-Err-Memory-clause-since : goal.returns-in-Err-Memory-clause-since
returns-in-Err-Memory-clause-since g c =
    let is = running g (goal.at.returns-in-Err-Memory-clause-since g c).After-read_epoch-epoch in
    (returns-in-Err-Memory-clause-retried g c is.0 is.1 refl).since
