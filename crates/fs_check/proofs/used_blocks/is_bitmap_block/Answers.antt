use Rattle.std.proofs.Common.{◌≡◌, ◌*◌, length, take, drop, ap, ◌∙◌, arith, length-take, length-drop}
use Rattle.model.specs.Stream.{Octets}
use Rattle.fs_check.proofs.Bitmaps.{same_bits, same_marks}
use Rattle.fs_check.proofs.used_blocks.is_bitmap_block.Goals as goal

pub returns : goal.returns
returns g c = (
  (λ same. same_marks (g.B.Blocks.blocks c.args.blocks.now) c.args.marks.now c.block.result.now c.block_of.result.now c.args.table
      c.block.ensures.octets c.block_of.ensures.octets (c.has_bits.ensures.0 same)),
  (λ same. c.has_bits.ensures.1
      (same_bits (g.B.Blocks.blocks c.args.blocks.now) c.args.marks.now c.block.result.now c.block_of.result.now c.args.table
      c.block.ensures.octets c.block_of.ensures.octets same)),
)

pub has_bits-requires-clause-same : goal.has_bits-requires-clause-same
has_bits-requires-clause-same g c =
    let part : length (take 4096 (drop (4096 * c.args.table) c.args.marks.now)) ≡ 4096 =
    omega (
      arith,
      length-take 4096 (drop (4096 * c.args.table) c.args.marks.now),
      length-drop (4096 * c.args.table) c.args.marks.now,
      c.requires.whole,
    ) in
    ap (λ (o : Octets). length o) c.block_of.ensures.octets ∙ part
