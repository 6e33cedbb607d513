use Rattle.std.proofs.Common.{◌≡◌, ◌+◌, length, ◌∙◌, subst, arith}
use Rattle.model.specs.Stream.{Octets}
use Rattle.model.specs.SpoolFiles.{group_name}
use Rattle.fs.specs.Touches.{touched_by_growth}
use Rattle.fs_layout.proofs.Touching.{touches_more, touches_then}
use Rattle.spool_growing.specs.Calls.{MakesAt}
use Rattle.spool_growing.proofs.Grown.{makes_group}
use Rattle.spool_growing.proofs.Taken.{one_empty_more, one_file_more}
use Rattle.spool_growing.proofs.Touched.{few_reached}
use Rattle.spool_growing.proofs.staging.make_group.Goals as goal

pub make_empty-requires-clause-few : goal.make_empty-requires-clause-few
make_empty-requires-clause-few g c =
    omega (
      arith,
      one_file_more c.args.inodes c.in_ok-at.at _ _ (g.B.Blocks.blocks c.args.blocks.now)
          (g.B.Blocks.blocks c.make_file.new.blocks) c.in_ok-at.ensures.made,
      c.requires.free.inodes_free,
    )

pub make_empty-requires-2-clause-few : goal.make_empty-requires-2-clause-few
make_empty-requires-2-clause-few g c =
    omega (
      arith,
      one_file_more c.args.inodes c.in_ok-at.at _ _ (g.B.Blocks.blocks c.args.blocks.now)
          (g.B.Blocks.blocks c.make_file.new.blocks) c.in_ok-at.ensures.made,
      one_empty_more c.args.inodes c.in_ok-numbers.numbers _ (g.B.Blocks.blocks c.make_file.new.blocks)
          (g.B.Blocks.blocks c.make_empty.new.blocks) c.in_ok-numbers.ensures.created,
      c.requires.free.inodes_free,
    )

pub returns-clause-made : goal.returns-clause-made
returns-clause-made g c =
    let a = g.B.Blocks.blocks c.args.blocks.now in
    let b = g.B.Blocks.blocks c.make_file.new.blocks in
    let d = g.B.Blocks.blocks c.make_empty.new.blocks in
    let e = g.B.Blocks.blocks c.make_empty-2.new.blocks in
    let first : c.deref.result.now ≡ group_name c.args.name.now = c.deref.ensures.value ∙ c.in_ok-first.ensures in
    makes_group c.args.inodes c.in_ok-at.at c.in_ok-numbers.numbers c.in_ok-overview.overview c.args.name.now c.args.record.now a b d e
    (subst (λ (q : Octets). MakesAt c.args.inodes c.in_ok-at.at q c.args.record.now a b) first c.in_ok-at.ensures.made)
    c.in_ok-numbers.ensures.created c.in_ok-overview.ensures.created

pub returns-clause-touches : goal.returns-clause-touches
returns-clause-touches g c =
    let a = g.B.Blocks.blocks c.args.blocks.now in
    let b = g.B.Blocks.blocks c.make_file.new.blocks in
    let d = g.B.Blocks.blocks c.make_empty.new.blocks in
    let e = g.B.Blocks.blocks c.make_empty-2.new.blocks in
    let reached = 2 + touched_by_growth 0 (length c.args.record.now) in
    touches_more (reached + (2 + 2)) 254 a e (omega (arith, few_reached (length c.args.record.now) c.requires.short))
    (touches_then reached (2 + 2) a b e c.in_ok-at.ensures.touches
    (touches_then 2 2 b d e c.in_ok-numbers.ensures.touches c.in_ok-overview.ensures.touches))
