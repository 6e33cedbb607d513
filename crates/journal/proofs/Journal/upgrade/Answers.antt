use Rattle.std.proofs.Common.{◌≡◌, ◌≤◌, ℕ, false, sym, ◌∙◌, ap, subst}
use Rattle.model.specs.Volume.{format_in}
use Rattle.journal.specs.declared.Next.TheVariants.{Idle}
use Rattle.journal.specs.Journal.{JournalView}
use Rattle.journal.proofs.Upgrades.{when_ok, when_unsynced, when_unsynced_for_memory, when_unwritten}
use Rattle.journal.proofs.Journal.upgrade.Given.{Over}
use Rattle.journal.proofs.Journal.upgrade.Goals as goal
use Rattle.journal.proofs.Journal.upgrade.Goals.{After-write_gate_of_format}

-- the journal that is upgraded is idle and runs, and its format is 1 or 2
ready : (g : Over) (c : After-write_gate_of_format g)
    → (c.self.inside.next ≡ Idle) × (c.self.inside.halted ≡ false) × (format_in c.self.inside.superblock.items ≤ 2)
ready g c = (
  ap (λ (v : JournalView _). v.next) c.self.view_is ∙ c.requires.ready.1,
  ap (λ (v : JournalView _). v.halted) c.self.view_is ∙ c.requires.ready.0,
  subst (λ (n : ℕ). n ≤ 2) (sym (ap (λ (v : JournalView _). v.format) c.self.view_is)) c.requires.older,
)

pub invariant_of-self : goal.invariant_of-self
invariant_of-self g c =
    let is = ready g (goal.at.invariant_of-self g c).After-write_gate_of_format in
    (when_unwritten g.D.Disk.device c.self.inside.disk c.write_gate_of_format.new.disk _ _ _ _ _
    (g.met.D.Disk.counts_content c.write_gate_of_format.new.disk) is.2 _ _ is.0 is.1 c.self.invariant
    _ c.in-Err-Fault.field-0-is c.in-Err-Fault.ensures).0

pub returns-in-Err-Fault-clause-upgrades : goal.returns-in-Err-Fault-clause-upgrades
returns-in-Err-Fault-clause-upgrades g c =
    let is = ready g (goal.at.returns-in-Err-Fault-clause-upgrades g c).After-write_gate_of_format in
    rw (← c.self.view_is) (when_unwritten g.D.Disk.device c.self.inside.disk c.write_gate_of_format.new.disk _ _ _ _ _
    (g.met.D.Disk.counts_content c.write_gate_of_format.new.disk) is.2 _ _ is.0 is.1 c.self.invariant
    _ c.in-Err-Fault.field-0-is c.in-Err-Fault.ensures).1

pub invariant_of-self-in-Ok-sync_gate_of_format : goal.invariant_of-self-in-Ok-sync_gate_of_format
invariant_of-self-in-Ok-sync_gate_of_format g c =
    let is = ready g (goal.at.invariant_of-self-in-Ok-sync_gate_of_format g c).After-write_gate_of_format in
    (when_ok g.D.Disk.device c.self.inside.disk c.sync_gate_of_format.new.disk _ _ _ _ _
    (g.met.D.Disk.counts_content c.sync_gate_of_format.new.disk) is.2 _ _ is.0 is.1 c.self.invariant c.write_gate_of_format.new.disk
    _ c.open_gate.ensures.size c.open_gate.ensures.label c.open_gate.ensures.format c.open_gate.ensures.epoch _ _ c.in-Ok.ensures
    c.in-Ok-sync_gate_of_format.ensures).0

pub returns-in-Ok-sync_gate_of_format-clause-upgrades : goal.returns-in-Ok-sync_gate_of_format-clause-upgrades
returns-in-Ok-sync_gate_of_format-clause-upgrades g c =
    let is = ready g (goal.at.returns-in-Ok-sync_gate_of_format-clause-upgrades g c).After-write_gate_of_format in
    rw (← c.self.view_is) (when_ok g.D.Disk.device c.self.inside.disk c.sync_gate_of_format.new.disk _ _ _ _ _
    (g.met.D.Disk.counts_content c.sync_gate_of_format.new.disk) is.2 _ _ is.0 is.1 c.self.invariant c.write_gate_of_format.new.disk
    _ c.open_gate.ensures.size c.open_gate.ensures.label c.open_gate.ensures.format c.open_gate.ensures.epoch _ _ c.in-Ok.ensures
    c.in-Ok-sync_gate_of_format.ensures).1

pub invariant_of-self-in-Err-Fault-sync_gate_of_format : goal.invariant_of-self-in-Err-Fault-sync_gate_of_format
invariant_of-self-in-Err-Fault-sync_gate_of_format g c =
    let is = ready g (goal.at.invariant_of-self-in-Err-Fault-sync_gate_of_format g c).After-write_gate_of_format in
    (when_unsynced g.D.Disk.device c.self.inside.disk c.sync_gate_of_format.new.disk _ _ _ _ _
    (g.met.D.Disk.counts_content c.sync_gate_of_format.new.disk) is.2 _ _ is.0 is.1 c.self.invariant c.write_gate_of_format.new.disk
    _ _ c.in-Err-Fault-sync_gate_of_format.field-0-is c.in-Ok.ensures c.in-Err-Fault-sync_gate_of_format.ensures).0

pub returns-in-Err-Fault-sync_gate_of_format-clause-upgrades : goal.returns-in-Err-Fault-sync_gate_of_format-clause-upgrades
returns-in-Err-Fault-sync_gate_of_format-clause-upgrades g c =
    let is = ready g (goal.at.returns-in-Err-Fault-sync_gate_of_format-clause-upgrades g c).After-write_gate_of_format in
    rw (← c.self.view_is) (when_unsynced g.D.Disk.device c.self.inside.disk c.sync_gate_of_format.new.disk _ _ _ _ _
    (g.met.D.Disk.counts_content c.sync_gate_of_format.new.disk) is.2 _ _ is.0 is.1 c.self.invariant c.write_gate_of_format.new.disk
    _ _ c.in-Err-Fault-sync_gate_of_format.field-0-is c.in-Ok.ensures c.in-Err-Fault-sync_gate_of_format.ensures).1

pub invariant_of-self-in-Err-Memory-sync_gate_of_format : goal.invariant_of-self-in-Err-Memory-sync_gate_of_format
invariant_of-self-in-Err-Memory-sync_gate_of_format g c =
    let is = ready g (goal.at.invariant_of-self-in-Err-Memory-sync_gate_of_format g c).After-write_gate_of_format in
    (when_unsynced_for_memory g.D.Disk.device c.self.inside.disk c.sync_gate_of_format.new.disk _ _ _ _ _
    (g.met.D.Disk.counts_content c.sync_gate_of_format.new.disk) is.2 _ _ is.0 is.1 c.self.invariant c.write_gate_of_format.new.disk
    _ _ c.in-Err-Memory-sync_gate_of_format.field-0-is c.in-Ok.ensures c.in-Err-Memory-sync_gate_of_format.ensures).0

pub returns-in-Err-Memory-sync_gate_of_format-clause-upgrades : goal.returns-in-Err-Memory-sync_gate_of_format-clause-upgrades
returns-in-Err-Memory-sync_gate_of_format-clause-upgrades g c =
    let is = ready g (goal.at.returns-in-Err-Memory-sync_gate_of_format-clause-upgrades g c).After-write_gate_of_format in
    rw (← c.self.view_is) (when_unsynced_for_memory g.D.Disk.device c.self.inside.disk c.sync_gate_of_format.new.disk _ _ _ _ _
    (g.met.D.Disk.counts_content c.sync_gate_of_format.new.disk) is.2 _ _ is.0 is.1 c.self.invariant c.write_gate_of_format.new.disk
    _ _ c.in-Err-Memory-sync_gate_of_format.field-0-is c.in-Ok.ensures c.in-Err-Memory-sync_gate_of_format.ensures).1
