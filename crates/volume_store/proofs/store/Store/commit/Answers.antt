use Rattle.std.proofs.Common.{◌≡◌, ℕ, length, refl, sym, ◌∙◌, ap, arith, subst}
use Rattle.spool.specs.View.{SpoolView}
use Rattle.volume_store.specs.Saved.{GoesOn, IsTied, LeavesPrefix, StoreView}
use Rattle.volume_store.proofs.GoingOn.{writes}
use Rattle.volume_store.proofs.Tied.{prefix, written}
use Rattle.volume_store.proofs.store.Store.commit.Goals as goal

pub returns-in_err-write-clause-prefix : goal.returns-in_err-write-clause-prefix
returns-in_err-write-clause-prefix g c =
    let after : StoreView g.row.D.Denot =
    record { journal = c.write.new.journal; spool = c.write.new.spool; durable = c.self.inside.durable } in
    subst (λ (before : StoreView g.row.D.Denot). LeavesPrefix g.D.Disk.device before after) c.self.view_is
    (prefix g.D.Disk.device c.self.inside.journal c.write.new.journal c.self.inside.spool c.self.inside.durable c.self.invariant
    c.write.ensures.same (c.is_idle.ensures.idle.0 c.if-not-is_idle.false) c.write.ensures.since c.kept.ensures after refl)

pub returns-in_err-write-clause-goes_on : goal.returns-in_err-write-clause-goes_on
returns-in_err-write-clause-goes_on g c =
    let after : StoreView g.row.D.Denot =
    record { journal = c.write.new.journal; spool = c.write.new.spool; durable = c.self.inside.durable } in
    subst (λ (before : StoreView g.row.D.Denot). GoesOn g.D.Disk.device before after) c.self.view_is
    (writes g.D.Disk.device c.self.inside.journal c.write.new.journal c.self.inside.spool c.self.inside.durable c.self.invariant
    c.write.ensures.same (c.is_idle.ensures.idle.0 c.if-not-is_idle.false) c.write.ensures.since c.kept.ensures c.write.ensures.time
    after refl c.write.ensures.spool (omega arith))

pub returns-clause-goes_on : goal.returns-clause-goes_on
returns-clause-goes_on g c =
    let after : StoreView g.row.D.Denot =
    record { journal = c.write.new.journal; spool = c.write.new.spool; durable = c.len-self-inside.result } in
    subst (λ (before : StoreView g.row.D.Denot). GoesOn g.D.Disk.device before after) c.self.view_is
    (writes g.D.Disk.device c.self.inside.journal c.write.new.journal c.self.inside.spool c.self.inside.durable c.self.invariant
    c.write.ensures.same (c.is_idle.ensures.idle.0 c.if-not-is_idle.false) c.write.ensures.since c.kept.ensures c.write.ensures.time
    after refl c.write.ensures.spool
    (omega (
      arith,
      c.self.invariant.durable_within,
      c.len-self-inside.ensures,
      ap (λ (s : SpoolView). length s.changes) c.write.ensures.spool,
    )))

pub invariant_of-self-2 : goal.invariant_of-self-2
invariant_of-self-2 g c =
    let many : c.len-self-inside.result ≡ length c.self.inside.spool.changes =
    c.len-self-inside.ensures ∙ ap (λ (s : SpoolView). length s.changes) c.write.ensures.spool in
    subst (λ (t : SpoolView × ℕ). IsTied g.D.Disk.device c.write.new.journal t.0 t.1) (λ i. (sym c.write.ensures.spool i, sym many i))
    (written g.D.Disk.device c.self.inside.journal c.write.new.journal c.self.inside.spool c.self.inside.durable c.self.invariant
    c.write.ensures.same c.in_ok-write.ensures.ok c.kept.ensures)

pub returns-clause-prefix : goal.returns-clause-prefix
returns-clause-prefix g c =
    let after : StoreView g.row.D.Denot =
    record { journal = c.write.new.journal; spool = c.write.new.spool; durable = c.len-self-inside.result } in
    subst (λ (before : StoreView g.row.D.Denot). LeavesPrefix g.D.Disk.device before after) c.self.view_is
    (prefix g.D.Disk.device c.self.inside.journal c.write.new.journal c.self.inside.spool c.self.inside.durable c.self.invariant
    c.write.ensures.same (c.is_idle.ensures.idle.0 c.if-not-is_idle.false) c.write.ensures.since c.kept.ensures after refl)
