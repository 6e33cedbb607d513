use Rattle.std.proofs.Common.{ℕ, sym, subst}
use Rattle.volume_store.specs.Opening.{IsOpened}
use Rattle.volume_store.specs.Saved.{IsTied}
use Rattle.volume_store.proofs.Opened.{opened, refused_at_once, tied_opened}
use Rattle.volume_store.proofs.store.Store.open.Goals as goal

pub returns-in_default-clause-refusal : goal.returns-in_default-clause-refusal
returns-in_default-clause-refusal g c = refused_at_once g.D.Disk.device c.args.disk

pub invariant_of-result : goal.invariant_of-result
invariant_of-result g c =
    let o = c.in_ok-journal.field-0 in
    subst (λ (n : ℕ). IsTied g.D.Disk.device o.journal o.spool n) (sym c.len.ensures)
    (tied_opened g.D.Disk.device o.journal o.spool c.in_ok-journal.ensures.loaded c.in_ok-journal.ensures.format)

pub returns-clause-ok : goal.returns-clause-ok
returns-clause-ok g c =
    let o = c.in_ok-journal.field-0 in
    subst (λ (n : ℕ). IsOpened g.D.Disk.device c.args.disk (record { journal = o.journal; spool = o.spool; durable = n }))
    (sym c.len.ensures)
    (opened g.D.Disk.device o.journal o.spool c.in_ok-journal.ensures.loaded c.in_ok-journal.ensures.format c.args.disk
    c.in_ok-journal.ensures.idle c.is_idle-idle.ensures.now c.in_ok-journal.ensures.spool c.in_ok-journal.ensures.opening.still)
