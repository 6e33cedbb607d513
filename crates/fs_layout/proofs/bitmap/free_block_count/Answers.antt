use Rattle.std.proofs.Common.{◌≡◌, ◌+◌, ℕ, length, arith}
use Rattle.fs_layout.proofs.Marking.{free_in_more, up_to}
use Rattle.fs_layout.proofs.bitmap.free_block_count.Goals as goal

pub loop-table-preserved : goal.loop-table-preserved
loop-table-preserved g c =
    let blocks = g.B.Blocks.blocks c.args.blocks.now in
    let more : c.min-some.result + up_to c.loop-table.table (length blocks) ≡ up_to (c.loop-table.table + 1) (length blocks) =
    omega (arith, c.len-count.ensures.count) in (
      omega (arith, c.loop-table.invariant.0, c.count_clear-free.ensures.few),
      free_in_more blocks c.loop-table.table c.min-some.result c.count_clear-free.result c.loop-table.free c.block.result.now
          c.block.ensures.octets more c.count_clear-free.ensures.clear c.loop-table.invariant.1,
    )
