use Rattle.std.proofs.Common.{◌<◌, ℕ, ap, arith, ◌∙◌, get_or, length, length-set}
use Rattle.volume_usage.specs.Marks.{image_of, marked_after}
use Rattle.volume_usage.proofs.Marked.{one_more}
use Rattle.volume_usage.proofs.tables.BitmapMarks.after.Goals as goal

pub loop-table-preserved : goal.loop-table-preserved
loop-table-preserved c =
    let bound : c.loop-table.table < length c.loop-table.bits =
    omega (arith, c.loop-table-test.true, c.args.self.few, c.loop-table.invariant.0) in (
      length-set c.loop-table.bits c.loop-table.table c.marks_after.result ∙ c.loop-table.invariant.0,
      λ whole. one_more (λ t. marked_after (get_or c.args.self.bits t 0) (image_of c.args.batch.now t)) c.loop-table.bits c.loop-table.table
          c.marks_after.result (c.loop-table.invariant.1 whole) bound
          (c.marks_after.ensures whole ∙ ap (λ (n : ℕ). marked_after n (image_of c.args.batch.now c.loop-table.table)) c.of_block.ensures),
    )
