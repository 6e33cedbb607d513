use Rattle.std.proofs.Common.{IsTrue, Bool, ◌<◌, ap, arith, refl, sym, subst, ◌∙◌, length, length-set}
use Rattle.disk.proofs.Devices.{elapses_then}
use Rattle.volume_usage.specs.Usage.{marked}
use Rattle.volume_usage.proofs.Marked.{one_more}
use Rattle.volume_usage.proofs.Reading.{no_read, no_time, read_then}
use Rattle.volume_usage.proofs.tables.BitmapMarks.read.Goals as goal

pub loop-table-preserved : goal.loop-table-preserved
loop-table-preserved g c =
    let so_far = c.loop-table.invariant in
    let told : IsTrue (g.D.Disk.device c.args.journal.now.disk).tells → IsTrue (g.D.Disk.device c.loop-table.journal.disk).tells =
    λ t. subst (λ (b : Bool). IsTrue b) (sym so_far.4) t in
    let bound : c.loop-table.table < length c.loop-table.bits =
    omega (arith, c.loop-table-test.true, c.bitmap_blocks-tables.ensures, c.blocks-2.ensures.high, so_far.8) in (
      c.in_ok-bits.ensures.ready,
      c.in_ok-bits.ensures.label ∙ so_far.1,
      c.in_ok-bits.ensures.format ∙ so_far.2,
      c.in_ok-bits.ensures.size ∙ so_far.3,
      c.in_ok-bits.ensures.tells ∙ so_far.4,
      c.in_ok-bits.ensures.failures.ok ∙ so_far.5,
      (λ t. c.in_ok-bits.ensures.same (told t) ∙ so_far.6 t),
      (λ t. one_more (marked c.args.journal.now.blocks) c.loop-table.bits c.loop-table.table c.in_ok-bits.field-0
          (so_far.7 t) bound
          (c.in_ok-bits.ensures.value (told t) ∙ ap (λ bs. marked bs c.loop-table.table) (so_far.6 t))),
      length-set c.loop-table.bits c.loop-table.table c.in_ok-bits.field-0 ∙ so_far.8,
      elapses_then (g.D.Disk.device c.args.journal.now.disk) (g.D.Disk.device c.loop-table.journal.disk)
          (g.D.Disk.device c.read_marks.new.journal.disk) so_far.9 c.read_marks.ensures.time,
      read_then (g.D.Disk.device c.args.journal.now.disk) (g.D.Disk.device c.loop-table.journal.disk)
          (g.D.Disk.device c.read_marks.new.journal.disk) c.args.journal.now.format c.args.journal.now.label c.args.journal.now.blocks
          c.loop-table.journal.format c.loop-table.journal.label c.loop-table.journal.blocks so_far.2 so_far.1 so_far.6 so_far.9 so_far.10
          c.read_marks.ensures.since,
    )

pub loop-table-init : goal.loop-table-init
loop-table-init g c = (
  c.requires,
  refl,
  refl,
  refl,
  refl,
  refl,
  λ _. refl,
  λ _ t low. absurd (omega (arith, low)),
  refl,
  no_time (g.D.Disk.device c.args.journal.now.disk),
  no_read (g.D.Disk.device c.args.journal.now.disk) c.args.journal.now.format c.args.journal.now.label c.args.journal.now.blocks,
)

pub returns-in_err-bits-clause-time : goal.returns-in_err-bits-clause-time
returns-in_err-bits-clause-time g c =
    elapses_then (g.D.Disk.device c.args.journal.now.disk) (g.D.Disk.device c.loop-table.journal.disk)
    (g.D.Disk.device c.read_marks.new.journal.disk) c.loop-table.invariant.9 c.read_marks.ensures.time

pub returns-in_err-bits-clause-since : goal.returns-in_err-bits-clause-since
returns-in_err-bits-clause-since g c =
    let so_far = c.loop-table.invariant in
    read_then (g.D.Disk.device c.args.journal.now.disk) (g.D.Disk.device c.loop-table.journal.disk)
    (g.D.Disk.device c.read_marks.new.journal.disk) c.args.journal.now.format c.args.journal.now.label c.args.journal.now.blocks
    c.loop-table.journal.format c.loop-table.journal.label c.loop-table.journal.blocks so_far.2 so_far.1 so_far.6 so_far.9 so_far.10
    c.read_marks.ensures.since
