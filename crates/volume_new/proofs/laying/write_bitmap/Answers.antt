use Rattle.std.proofs.Common.{◌+◌, Bool, IsTrue, sym, ◌∙◌, ap, subst, arith, ℕ}
use Rattle.disk.specs.Image.{overwritten}
use Rattle.model.specs.Stream.{Octets}
use Rattle.volume_new.specs.Formatting.{HasBitmap}
use Rattle.volume_new.proofs.Ends.{out_then}
use Rattle.volume_new.proofs.Laid.{bitmap_more}
use Rattle.volume_new.proofs.laying.write_bitmap.Goals as goal

pub loop-table-preserved : goal.loop-table-preserved
loop-table-preserved g c =
    let first = g.D.Disk.device c.args.disk.now in
    let old = g.D.Disk.device c.loop-table.disk in
    let new = g.D.Disk.device c.write_beside.new.disk in
    let table = c.loop-table.table in
    record {
      leaves = out_then first old new c.loop-table.invariant.leaves c.write_beside.ensures.leaves;
      failures = c.in_ok-write_beside.ensures.failures.ok ∙ c.loop-table.invariant.failures;
      bitmap = λ t.
          let here = subst (λ (b : Bool). IsTrue b) (sym c.loop-table.invariant.leaves.time.tells) t in
          subst (λ (o : Octets). HasBitmap c.args.first (table + 1) c.args.blocks o)
          (sym (c.in_ok-write_beside.ensures.content here
          ∙ ap (λ (n : ℕ). overwritten n c.bitmap_block.result old.content)
          (omega (arith, c.start_of-place.ensures, c.home_block.ensures, c.from.ensures))))
          (bitmap_more c.args.first table c.args.blocks c.bitmap_block.result old.content (c.loop-table.invariant.bitmap t)
          (omega (arith, c.loop-table-test.true, c.div_ceil-table-end.ensures, c.requires.room, c.requires.low))
          c.bitmap_block.ensures);
    }
