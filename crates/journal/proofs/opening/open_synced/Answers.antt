use Rattle.std.proofs.Common.{◌≡◌, ◌≢◌, ◌+◌, refl, sym, ◌∙◌}
use Rattle.std.proofs.lemmas.Result.{IfOk-weaker}
use Rattle.std.specs.List.{sum}
use Rattle.journal.specs.Journal.{JournalView, sizes}
use Rattle.journal.specs.Opening.{Opens, Refuses}
use Rattle.journal.specs.Order.{closings}
use Rattle.journal.specs.declared.JournalError.{JournalError}
use Rattle.journal.specs.declared.JournalError.TheVariants.{Fault, Memory, NotAVolume, Halted}
use Rattle.journal_segments.specs.declared.SegmentError.{SegmentError}
use Rattle.journal_segments.specs.declared.SegmentError.TheVariants.{Fault as ReadFault, NotAVolume as ReadNotAVolume}
use Rattle.journal.specs.declared.Refused.{Refused}
use Rattle.journal.specs.Opening.{Costs}
use Rattle.journal.proofs.Found.{costs_none, costs_replayed, opens_replayed, refuses_replayed, refuses_found, err_weaker_both}
use Rattle.journal.proofs.opening.open_synced.Goals as goal

pub returns-in-Ok-clause-ok : goal.returns-in-Ok-clause-ok
returns-in-Ok-clause-ok g c =
    let same = c.to_be_replayed.ensures.disk in
    IfOk-weaker c.replay.result _ (Opens g.D.Disk.device c.args.disk)
    (λ after h. opens_replayed g.D.Disk.device c.args.disk c.to_be_replayed.result (rw same c.load.ensures.quiet)
    (rw same c.in-Ok.ensures.still) (rw same c.to_be_replayed.ensures.stands) c.to_be_replayed.ensures.whole
    (rw same c.to_be_replayed.ensures.format) c.to_be_replayed.ensures.rest after h.0 h.1 h.2)
    c.replay.ensures.ok

pub returns-in-Ok-clause-err : goal.returns-in-Ok-clause-err
returns-in-Ok-clause-err g c =
    let same = c.to_be_replayed.ensures.disk in
    err_weaker_both c.replay.result _ _
    (λ (refused : Refused g.row.D.Denot). Refuses g.D.Disk.device c.args.disk refused.disk refused.error)
    (λ refused h holds. refuses_replayed g.D.Disk.device c.args.disk c.to_be_replayed.result
    (rw same c.load.ensures.quiet) (rw same c.in-Ok.ensures.still) (rw same c.to_be_replayed.ensures.stands)
    c.to_be_replayed.ensures.whole (rw same c.to_be_replayed.ensures.format) refused.disk refused.error h.0 h.1 h.2 holds)
    c.replay.ensures.err c.replay.ensures.left

-- a read's refusal, as the journal's
refused_as : (e : SegmentError) (error : JournalError) → (e ≡ ReadFault → error ≡ Fault) → (e ≡ ReadNotAVolume → error ≡ NotAVolume)
    → (error ≡ Fault → e ≡ ReadFault) × (error ≡ NotAVolume → e ≡ ReadNotAVolume) × (error ≢ Memory) × (error ≢ Halted)
refused_as ReadFault error fault no_volume =
    let is : error ≡ Fault = fault refl in (
      λ e. refl,
      λ e. absurd (let two : Fault ≡ NotAVolume = sym is ∙ e in cc),
      λ e. (let two : Fault ≡ Memory = sym is ∙ e in cc),
      λ e. (let two : Fault ≡ Halted = sym is ∙ e in cc),
    )
refused_as ReadNotAVolume error fault no_volume =
    let is : error ≡ NotAVolume = no_volume refl in (
      λ e. absurd (let two : NotAVolume ≡ Fault = sym is ∙ e in cc),
      λ e. refl,
      λ e. (let two : NotAVolume ≡ Memory = sym is ∙ e in cc),
      λ e. (let two : NotAVolume ≡ Halted = sym is ∙ e in cc),
    )

pub returns-in-Err-clause-err : goal.returns-in-Err-clause-err
returns-in-Err-clause-err g c =
    let rejects = c.in-Err.ensures.err in
    let other = refused_as c.in-Err.error c.from.result c.from.ensures.fault c.from.ensures.no_volume in
    refuses_found g.D.Disk.device c.args.disk c.load.new.disk c.from.result c.load.ensures.quiet (λ e. rejects.fault (other.0 e))
    (λ e. rejects.no_volume (other.1 e)) other.2 other.3

pub returns-in-Ok-clause-cost : goal.returns-in-Ok-clause-cost
returns-in-Ok-clause-cost g c t =
    let same = c.to_be_replayed.ensures.disk in
    IfOk-weaker c.replay.result _
    (λ (after : JournalView g.row.D.Denot). Costs 0 (g.D.Disk.device c.args.disk).content (g.D.Disk.device c.args.disk)
    (g.D.Disk.device after.disk))
    (λ after h. costs_replayed (g.D.Disk.device c.args.disk) (g.D.Disk.device c.to_be_replayed.result.disk) (g.D.Disk.device after.disk)
    (sum (sizes c.to_be_replayed.result).counts + closings (sizes c.to_be_replayed.result))
    (1 + closings (sizes c.to_be_replayed.result)) (rw same c.load.ensures.quiet)
    (rw same c.in-Ok.ensures.still) (rw same c.to_be_replayed.ensures.open) (rw same c.to_be_replayed.ensures.syncs) h.0 h.1 t)
    c.replay.ensures.cost

pub returns-in-Ok-default-eq0-clause-cost : goal.returns-in-Ok-default-eq0-clause-cost
returns-in-Ok-default-eq0-clause-cost g c =
    rw c.at_rest.ensures.disk
    (costs_none (g.D.Disk.device c.args.disk) (g.D.Disk.device c.load.new.disk) c.load.ensures.quiet c.in-Ok-default-eq0.ensures.still
    c.at_rest.ensures.none)
