use Rattle.std.proofs.Common.{◌<◌, Bool, Result, Err, ap, subst, sym, ◌∙◌}
use Rattle.std.proofs.lemmas.Result.{err_from_is_err_and}
use Rattle.world.specs.declared.events.StepError.{StepError}
use Rattle.world.proofs.Releases.{Drains, DrainsOn, drained, drains_fewer, drains_first, drains_more, left_to_give, unreleased_drain}
use Rattle.world.proofs.Releases.{unsettled_drain}
use Rattle.world.proofs.Settled.{Settles}
use Rattle.world.proofs.World.drain.Goals as goal

pub releases-init : goal.releases-init
releases-init g c =
    let h = c.in_ok-settle.ensures in
    drains_first g.D.Disk.device g.D.Disk.write_grows g.D.Disk.sync_grows c.args.self.now c.settle.new.self c.settle.new.self h.inner
    h.keeps h.served h.ok h.still h.cost

pub releases-preserved : goal.releases-preserved
releases-preserved g c =
    drains_more g.D.Disk.device g.D.Disk.write_grows g.D.Disk.sync_grows c.args.self.now c.releases.self c.release_some.new.self
    (subst (λ (b : Bool). DrainsOn g.D.Disk.device g.D.Disk.write_grows g.D.Disk.sync_grows c.args.self.now c.releases.self b)
    c.releases-test.true c.releases.invariant) c.in_ok-gives.gives c.in_ok-gives.ensures

pub releases-smaller : goal.releases-smaller
releases-smaller g c =
    subst (λ (b : Bool). left_to_give c.release_some.new.self c.in_ok-gives.gives < left_to_give c.releases.self b)
    (sym c.releases-test.true)
    (drains_fewer g.D.Disk.device g.D.Disk.write_grows g.D.Disk.sync_grows c.args.self.now c.releases.self c.release_some.new.self
    (subst (λ (b : Bool). DrainsOn g.D.Disk.device g.D.Disk.write_grows g.D.Disk.sync_grows c.args.self.now c.releases.self b)
    c.releases-test.true c.releases.invariant) c.in_ok-gives.gives c.in_ok-gives.ensures)

pub returns-in_err-settle : goal.returns-in_err-settle
returns-in_err-settle g c =
    let p = err_from_is_err_and c.from_residual.result c.from_residual.ensures.1 in
    let s : Settles g.D.Disk.device g.D.Disk.write_grows g.D.Disk.sync_grows c.args.self.now (Err c.in_err-settle.field-0.0)
    c.settle.new.self = record {
      inner = rw c.in_err-settle.was at c.settle.ensures.inner;
      served = c.settle.ensures.served;
      ok = tt;
      still = tt;
      cost = tt;
      hindered = rw c.in_err-settle.was at c.settle.ensures.hindered;
      now = c.settle.ensures.now;
      keeps = c.settle.ensures.keeps;
    } in
    let h : Drains g.D.Disk.device g.D.Disk.write_grows g.D.Disk.sync_grows c.args.self.now c.from_residual.result c.settle.new.self =
    subst (λ (r : Result (Unit {0}) StepError). Drains g.D.Disk.device g.D.Disk.write_grows g.D.Disk.sync_grows c.args.self.now r
    c.settle.new.self) (ap Err (sym p.2) ∙ sym p.1)
    (unsettled_drain g.D.Disk.device g.D.Disk.write_grows g.D.Disk.sync_grows c.args.self.now c.args.self.now c.settle.new.self _ s) in
    record {
      inner = h.inner;
      now = h.now;
      keeps = h.keeps;
      asked = h.asked;
      ok = h.ok;
      all = h.all;
      cost = h.cost;
      fault = h.fault;
      halted = h.halted;
      stays = h.stays;
      memory = h.memory;
    }

pub returns-in_err-gives : goal.returns-in_err-gives
returns-in_err-gives g c =
    let p = err_from_is_err_and c.from_residual-in_err-gives.result c.from_residual-in_err-gives.ensures.1 in
    let h : Drains g.D.Disk.device g.D.Disk.write_grows g.D.Disk.sync_grows c.args.self.now c.from_residual-in_err-gives.result
    c.release_some.new.self =
    subst (λ (r : Result (Unit {0}) StepError). Drains g.D.Disk.device g.D.Disk.write_grows g.D.Disk.sync_grows c.args.self.now r
    c.release_some.new.self) (ap Err (sym p.2) ∙ sym p.1)
    (unreleased_drain g.D.Disk.device g.D.Disk.write_grows g.D.Disk.sync_grows c.args.self.now c.releases.self c.release_some.new.self
    (subst (λ (b : Bool). DrainsOn g.D.Disk.device g.D.Disk.write_grows g.D.Disk.sync_grows c.args.self.now c.releases.self b)
    c.releases-test.true c.releases.invariant) _ (rw c.in_err-gives.was at c.release_some.ensures)) in
    record {
      inner = h.inner;
      now = h.now;
      keeps = h.keeps;
      asked = h.asked;
      ok = h.ok;
      all = h.all;
      cost = h.cost;
      fault = h.fault;
      halted = h.halted;
      stays = h.stays;
      memory = h.memory;
    }

pub returns : goal.returns
returns g c =
    let h = drained g.D.Disk.device g.D.Disk.write_grows g.D.Disk.sync_grows c.args.self.now c.args.self.now c.releases.self
    (subst (λ (b : Bool). DrainsOn g.D.Disk.device g.D.Disk.write_grows g.D.Disk.sync_grows c.args.self.now c.releases.self b)
    c.releases-test.false c.releases.invariant) in
    record {
      inner = h.inner;
      now = h.now;
      keeps = h.keeps;
      asked = h.asked;
      ok = h.ok;
      all = h.all;
      cost = h.cost;
      fault = h.fault;
      halted = h.halted;
      stays = h.stays;
      memory = h.memory;
    }
