use Rattle.std.proofs.Common.{◌≡◌, ◌⊎◌, inl, IsTrue, sym, subst, Bool}
use Rattle.std.proofs.lemmas.Result.{IfOk-weaker, IfErr-weaker}
use Rattle.journal.specs.Journal.{JournalView}
use Rattle.journal.specs.Opening.{Opens, Refuses, SyncsFirst, NeverSyncs}
use Rattle.journal.specs.declared.Refused.{Refused}
use Rattle.journal.specs.Opening.{Costs}
use Rattle.journal.specs.declared.JournalError.TheVariants.{NotAVolume}
use Rattle.journal.proofs.Found.{caused_elsewhere, costs_synced, match_both, opens_synced, refuses_caused, refuses_synced}
use Rattle.journal.proofs.Found.{syncs_first}
use Rattle.journal.proofs.opening.open_in.Goals as goal

pub returns-in-Ok-clause-ok : goal.returns-in-Ok-clause-ok
returns-in-Ok-clause-ok g c =
    IfOk-weaker c.open_synced.result (Opens g.D.Disk.device c.sync_first.new.disk) (Opens g.D.Disk.device c.args.disk)
    (λ journal h. opens_synced g.D.Disk.device c.args.disk c.sync_first.new.disk c.sync_first.ensures.quiet c.in-Ok.ensures.synced
    c.in-Ok.ensures.durable journal h)
    c.open_synced.ensures.ok

pub returns-in-Ok-clause-err : goal.returns-in-Ok-clause-err
returns-in-Ok-clause-err g c =
    IfErr-weaker c.open_synced.result
    (λ (refused : Refused g.row.D.Denot). Refuses g.D.Disk.device c.sync_first.new.disk refused.disk refused.error)
    (λ (refused : Refused g.row.D.Denot). Refuses g.D.Disk.device c.args.disk refused.disk refused.error)
    (λ refused h. refuses_synced g.D.Disk.device c.args.disk c.sync_first.new.disk c.sync_first.ensures.quiet c.in-Ok.ensures.synced
    c.in-Ok.ensures.durable refused.disk refused.error h)
    c.open_synced.ensures.err

pub returns-in-Err-clause-err : goal.returns-in-Err-clause-err
returns-in-Err-clause-err g c =
    refuses_caused g.D.Disk.device c.args.disk c.sync_first.new.disk c.in-Err.error c.sync_first.ensures.quiet c.in-Err.ensures.cause
    (λ t. c.in-Err.ensures.left t)

pub returns-in-Ok-clause-moment : goal.returns-in-Ok-clause-moment
returns-in-Ok-clause-moment g c =
    match_both c.open_synced.result (Opens g.D.Disk.device c.sync_first.new.disk)
    (λ (journal : JournalView g.row.D.Denot). SyncsFirst g.D.Disk.device c.args.disk journal.disk)
    (λ (refused : Refused g.row.D.Denot). Refuses g.D.Disk.device c.sync_first.new.disk refused.disk refused.error)
    (λ (refused : Refused g.row.D.Denot). SyncsFirst g.D.Disk.device c.args.disk refused.disk
    ⊎ NeverSyncs g.D.Disk.device c.args.disk refused.disk)
    c.open_synced.ensures.ok c.open_synced.ensures.err
    (λ journal h. syncs_first g.D.Disk.device c.args.disk c.sync_first.new.disk c.sync_first.ensures.quiet c.in-Ok.ensures.synced
    c.in-Ok.ensures.durable journal.disk h.time.later h.since)
    (λ refused h. inl (syncs_first g.D.Disk.device c.args.disk c.sync_first.new.disk c.sync_first.ensures.quiet c.in-Ok.ensures.synced
    c.in-Ok.ensures.durable refused.disk h.time.later h.since))

pub returns-in-Ok-clause-judged : goal.returns-in-Ok-clause-judged
returns-in-Ok-clause-judged g c =
    IfErr-weaker c.open_synced.result
    (λ (refused : Refused g.row.D.Denot). Refuses g.D.Disk.device c.sync_first.new.disk refused.disk refused.error)
    (λ (refused : Refused g.row.D.Denot). refused.error ≡ NotAVolume → SyncsFirst g.D.Disk.device c.args.disk refused.disk)
    (λ refused h is. syncs_first g.D.Disk.device c.args.disk c.sync_first.new.disk c.sync_first.ensures.quiet c.in-Ok.ensures.synced
    c.in-Ok.ensures.durable refused.disk h.time.later h.since)
    c.open_synced.ensures.err

pub returns-in-Err-clause-judged : goal.returns-in-Err-clause-judged
returns-in-Err-clause-judged g c is =
    absurd (caused_elsewhere c.in-Err.error (g.D.Disk.device c.args.disk) (g.D.Disk.device c.sync_first.new.disk) c.in-Err.ensures.cause is)

pub returns-in-Ok-clause-cost : goal.returns-in-Ok-clause-cost
returns-in-Ok-clause-cost g c t =
    let synced = subst (λ (b : Bool). IsTrue b) (sym c.sync_first.ensures.quiet.tells) t in
    IfOk-weaker c.open_synced.result
    (λ (journal : JournalView g.row.D.Denot). Costs 0 (g.D.Disk.device c.sync_first.new.disk).content
    (g.D.Disk.device c.sync_first.new.disk) (g.D.Disk.device journal.disk))
    (λ (journal : JournalView g.row.D.Denot). Costs 1 (g.D.Disk.device c.args.disk).content (g.D.Disk.device c.args.disk)
    (g.D.Disk.device journal.disk))
    (λ journal h. costs_synced g.D.Disk.device c.args.disk c.sync_first.new.disk c.sync_first.ensures.quiet c.in-Ok.ensures.synced
    c.in-Ok.ensures.durable journal.disk (λ s. h) t)
    (c.open_synced.ensures.cost synced)
