use Rattle.std.proofs.Common.{◌≡◌, ℕ, ◌+◌, ◌*◌, eqb, count_by, [], get_or, length, refl, ◌∙◌, ap, arith}
use Rattle.std.specs.List.{range_with_len}
use Rattle.model.specs.Volume.{number_at}
use Rattle.model.specs.Files.{bitmap_blocks, kind, entry}
use Rattle.fs_layout.proofs.Parts.{kind_in_block, table_more}
use Rattle.fs_layout.proofs.inodes.free_inode_count.Goals as goal

pub loop-table-preserved : goal.loop-table-preserved
loop-table-preserved g c =
    let blocks = g.B.Blocks.blocks c.args.blocks.now in
    let t = c.loop-table.table in
    let first : c.bitmap_blocks-first.result ≡ bitmap_blocks (length blocks) = c.bitmap_blocks-first.ensures
    ∙ ap bitmap_blocks c.len.ensures.count in (
      omega (arith, c.loop-table.invariant.0, c.count_free-free.ensures.few),
      table_more (λ k. eqb (kind (entry c.args.inodes blocks k)) 0) (λ k. eqb (number_at (64 * k) 4 c.block.result.now) 0) t 64
          c.loop-table.free c.count_free-free.result refl c.loop-table.invariant.1 c.count_free-free.ensures.free
          (λ i low. kind_in_block c.args.inodes blocks c.block.result.now t i low
          (c.block.ensures.octets ∙ ap (λ (n : ℕ). get_or blocks (n + t) []) first)),
    )

pub returns : goal.returns
returns g c =
    let blocks = g.B.Blocks.blocks c.args.blocks.now in
    let all : 64 * c.loop-table.table ≡ c.args.inodes = omega (arith, c.requires.whole) in
    c.loop-table.invariant.1 ∙ ap (λ (n : ℕ). count_by (λ k. eqb (kind (entry c.args.inodes blocks k)) 0) (range_with_len 0 n)) all
