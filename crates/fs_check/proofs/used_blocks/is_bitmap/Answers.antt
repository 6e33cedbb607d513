use Rattle.std.proofs.Common.{◌≡◌, ◌+◌, ◌*◌, length, refl, sym, ◌∙◌, arith}
use Rattle.std.proofs.lemmas.Bool.{false≢true}
use Rattle.model.specs.Files.{bitmap_blocks}
use Rattle.fs_check.proofs.Bitmaps.{all_marks}
use Rattle.fs_check.proofs.used_blocks.is_bitmap.Goals as goal

pub returns-then-not-is_bitmap_block : goal.returns-then-not-is_bitmap_block
returns-then-not-is_bitmap_block g c = (
  (λ same. absurd (false≢true same)),
  (λ same. absurd (false≢true (sym c.if-not-is_bitmap_block.true
      ∙ c.is_bitmap_block.ensures.1 (λ b low. same (32768 * c.loop-table.table + b) (omega (arith, low)))))),
)

pub returns : goal.returns
returns g c = (
  (λ same b low.
      let all : c.loop-table.table ≡ bitmap_blocks (length (g.B.Blocks.blocks c.args.blocks.now)) = omega (arith, c.len.ensures.count) in
      all_marks (g.B.Blocks.blocks c.args.blocks.now) c.args.marks.now c.loop-table.table c.loop-table.invariant b
      (omega (arith, low, all))),
  (λ same. refl),
)
