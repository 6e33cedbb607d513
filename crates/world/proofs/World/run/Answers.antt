use Rattle.std.proofs.Common.{◌≡◌, ℕ, subst, ◌∙◌, sym, refl, length, arith}
use Rattle.std.proofs.lemmas.Option.{slice_get_read}
use Rattle.world.specs.Events.{Ran}
use Rattle.world.specs.Images.{EachSince, LeftFits}
use Rattle.world.proofs.Running.{during_all, memory_is, memory_not, ran_all, ran_before, refused_during, refused_since, running_more}
use Rattle.world.proofs.Running.{running_none, since_all, PassedOne}
use Rattle.world.proofs.World.run.Goals as goal

pub loop-place-init : goal.loop-place-init
loop-place-init g c = running_none g.D.Disk.device g.D.Disk.write_grows g.D.Disk.sync_grows g.met.D.Disk.only_now c.args.self.now
    c.args.events.now c.kept.ensures

pub returns-then-is_for_memory-clause-went : goal.returns-then-is_for_memory-clause-went
returns-then-is_for_memory-clause-went g c =
    ran_before g.D.Disk.device g.D.Disk.write_grows g.D.Disk.sync_grows c.args.self.now c.loop-place.self c.step-result.new.self
    c.args.events.now c.loop-place.place c.index-events-place.result c.step-result.result c.loop-place.invariant
    (memory_is c.step-result.result (sym c.is_for_memory.ensures ∙ c.if-is_for_memory.true)) c.step-result.ensures.did
    c.step-result.ensures.keeps c.step-result.ensures.since
    (slice_get_read c.args.events.now (length c.args.events.now) c.loop-place.place c.index-events-place.result refl c.loop-place-test.true
    c.index-events-place.is) c.loop-place-test.true

pub returns-then-is_for_memory-clause-during : goal.returns-then-is_for_memory-clause-during
returns-then-is_for_memory-clause-during g c =
    refused_during g.D.Disk.device g.D.Disk.write_grows g.D.Disk.sync_grows c.args.self.now c.loop-place.self c.step-result.new.self
    c.args.events.now c.loop-place.place c.index-events-place.result c.step-result.result c.loop-place.invariant
    (memory_is c.step-result.result (sym c.is_for_memory.ensures ∙ c.if-is_for_memory.true)) c.step-result.ensures.did
    c.step-result.ensures.keeps c.step-result.ensures.since
    (slice_get_read c.args.events.now (length c.args.events.now) c.loop-place.place c.index-events-place.result refl c.loop-place-test.true
    c.index-events-place.is) c.loop-place-test.true

pub returns-then-is_for_memory-clause-since : goal.returns-then-is_for_memory-clause-since
returns-then-is_for_memory-clause-since g c =
    refused_since g.D.Disk.device g.D.Disk.write_grows g.D.Disk.sync_grows c.args.self.now c.loop-place.self c.step-result.new.self
    c.args.events.now c.loop-place.place c.index-events-place.result c.step-result.result c.loop-place.invariant
    (memory_is c.step-result.result (sym c.is_for_memory.ensures ∙ c.if-is_for_memory.true)) c.step-result.ensures.did
    c.step-result.ensures.keeps c.step-result.ensures.since
    (slice_get_read c.args.events.now (length c.args.events.now) c.loop-place.place c.index-events-place.result refl c.loop-place-test.true
    c.index-events-place.is) c.loop-place-test.true

pub loop-place-preserved : goal.loop-place-preserved
loop-place-preserved g c =
    running_more g.D.Disk.device g.D.Disk.write_grows g.D.Disk.sync_grows c.args.self.now c.loop-place.self c.step-result.new.self
    c.args.events.now c.loop-place.place c.index-events-place.result c.step-result.result c.loop-place.invariant
    (slice_get_read c.args.events.now (length c.args.events.now) c.loop-place.place c.index-events-place.result refl c.loop-place-test.true
    c.index-events-place.is) (memory_not c.step-result.result (sym c.is_for_memory.ensures ∙ c.if-is_for_memory.false))
    c.step-result.ensures.did c.step-result.ensures.keeps c.step-result.ensures.since

pub returns-clause-during : goal.returns-clause-during
returns-clause-during g c =
    let end : c.loop-place.place ≡ length c.args.events.now = omega (arith, c.loop-place.auto.place-end) in
    subst (λ (n : ℕ). EachSince (g.D.Disk.device c.args.self.now.journal.disk) (g.D.Disk.device c.loop-place.self.journal.disk)
    (PassedOne g.D.Disk.device g.D.Disk.write_grows g.D.Disk.sync_grows c.args.self.now c.loop-place.self c.args.events.now n)) end
    (during_all g.D.Disk.device g.D.Disk.write_grows g.D.Disk.sync_grows c.args.self.now c.loop-place.self c.args.events.now
    c.loop-place.place (omega (arith, end)) c.loop-place.invariant)

pub returns-clause-since : goal.returns-clause-since
returns-clause-since g c =
    let end : c.loop-place.place ≡ length c.args.events.now = omega (arith, c.loop-place.auto.place-end) in
    subst (λ (n : ℕ). LeftFits (g.D.Disk.device c.args.self.now.journal.disk) (g.D.Disk.device c.loop-place.self.journal.disk)
    (PassedOne g.D.Disk.device g.D.Disk.write_grows g.D.Disk.sync_grows c.args.self.now c.loop-place.self c.args.events.now n)) end
    (since_all g.D.Disk.device g.D.Disk.write_grows g.D.Disk.sync_grows c.args.self.now c.loop-place.self c.args.events.now
    c.loop-place.place (omega (arith, end)) c.loop-place.invariant)

pub returns-clause-went : goal.returns-clause-went
returns-clause-went g c =
    let end : c.loop-place.place ≡ length c.args.events.now = omega (arith, c.loop-place.auto.place-end) in
    subst (λ (n : ℕ). Ran g.D.Disk.device g.D.Disk.write_grows g.D.Disk.sync_grows c.args.self.now c.args.events.now n c.loop-place.self)
    end
    (ran_all g.D.Disk.device g.D.Disk.write_grows g.D.Disk.sync_grows c.args.self.now c.loop-place.self c.args.events.now c.loop-place.place
    (omega (arith, end)) c.loop-place.invariant)
