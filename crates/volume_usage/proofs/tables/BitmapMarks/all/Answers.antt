use Rattle.std.proofs.Common.{arith, get_or, ◌∙◌}
use Rattle.volume_usage.proofs.Marked.{sum_more}
use Rattle.volume_usage.proofs.tables.BitmapMarks.all.Goals as goal

pub loop-table-preserved : goal.loop-table-preserved
loop-table-preserved c = (
  sum_more (λ t. get_or c.args.self.bits t 0) c.loop-table.table c.loop-table.all c.from-all.result c.loop-table.invariant.0
      (c.from-all.ensures ∙ c.of_block.ensures),
  omega (arith, c.loop-table.invariant.1, c.from-all.ensures, c.of_block.type_inv),
)
