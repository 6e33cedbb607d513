use Rattle.std.proofs.Common.{◌≡◌, ◌+◌, ◌*◌, ◌/◌, ◌<◌, ℕ, length, subst, ◌∙◌, arith}
use Rattle.model.specs.Files.{bitmap_blocks, first_data}
use Rattle.fs.specs.Emptying.{Emptied, PutsBitmap}
use Rattle.fs.proofs.Emptying.{emptied_more, makes_empty}
use Rattle.fs.proofs.whole.make_empty.Goals as goal

pub loop-table-preserved : goal.loop-table-preserved
loop-table-preserved g c =
    let old = g.B.Blocks.blocks c.args.blocks.now in
    let mid = g.B.Blocks.blocks c.loop-table.blocks in
    let new = g.B.Blocks.blocks c.put_bitmap.new.blocks in
    let first : c.first_data-first.result ≡ first_data (length old) c.args.inodes =
    omega (arith, c.first_data-first.ensures, c.len-2.ensures.count) in (
      emptied_more (first_data (length old) c.args.inodes) c.loop-table.table old mid new c.loop-table.invariant.0
          (omega (arith, c.requires.room.room, c.loop-table.invariant.0.count, c.len.ensures.count, c.bitmap_blocks-tables.ensures))
          (subst (λ (n : ℕ). PutsBitmap c.loop-table.table n mid new) first c.in_ok-put_bitmap.ensures.done),
      c.in_ok-put_bitmap.ensures.kept ∙ c.loop-table.invariant.1,
    )

pub returns-clause-made : goal.returns-clause-made
returns-clause-made g c =
    let old = g.B.Blocks.blocks c.args.blocks.now in
    let new = g.B.Blocks.blocks c.loop-table.blocks in
    let all : c.loop-table.table ≡ bitmap_blocks (length old) =
    omega (arith, c.len.ensures.count, c.bitmap_blocks-tables.ensures) in
    makes_empty c.args.inodes old new c.requires.room c.requires.zeros
    (subst (λ (t : ℕ). Emptied (first_data (length old) c.args.inodes) t old new) all c.loop-table.invariant.0)
