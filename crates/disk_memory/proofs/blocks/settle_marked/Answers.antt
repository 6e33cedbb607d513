use Rattle.std.proofs.Common.{◌≡◌, ◌<◌, ◌+◌, ◌-◌, ◌*◌, ◌/◌, ◌≤◌, min, ℕ, false, length, get_or, inl, inr, sym, ◌∙◌, refl, arith}
use Rattle.std.proofs.lemmas.List.{get_or_read}
use Rattle.std.proofs.lemmas.Bool.{cases_Bool}
use Rattle.disk_memory.proofs.Picking.{marked_block, unmarked_block, settled_first, settled_last}
use Rattle.disk_memory.proofs.blocks.settle_marked.Goals as goal
use Rattle.disk_memory.proofs.blocks.settle_marked.Goals.{then-index, else-index}

pub loop-block-init : goal.loop-block-init
loop-block-init c = record {
  few = omega arith;
  size = refl;
  so_far =
      settled_first (c.args.marks.now.first * 4096) c.args.picks.now c.args.touched.now c.args.synced.now c.args.present.now.items
      (omega (arith, c.requires.flags, c.requires.size)) (sym c.requires.size)
      (λ k before. elim (cases_Bool (get_or c.args.touched.now k false)) [
        | inl touches ↦
            let from = c.args.marks.now.spanned.from (k / 4096) (c.requires.covered k touches) in
            absurd (omega (arith, before, from))
        | inr untouched ↦ untouched
      ]);
  kept = λ k untouched. refl;
}

pub loop-block-preserved : goal.loop-block-preserved
loop-block-preserved c =
    let block = c.loop-block.block in
    let marked = c.args.marks.now.blocks.items in
    let inside : block < length marked = omega (arith, c.loop-block-test.true, c.args.marks.now.spanned.within) in
    let flags : length c.args.touched.now ≡ length c.args.present.now.items = omega (arith, c.requires.flags, c.requires.size) in
    elim c.if-index.branch [
      | then-index w ↦
          let below : block * 4096 ≤ length c.args.present.now.items = omega (arith, inside, c.requires.blocks, c.requires.size) in
          let to : w.block_end-end.result ≡ block * 4096 + min 4096 (length c.args.present.now.items - block * 4096) =
          omega (arith, w.block_end-end.ensures, c.requires.size) in
          let more = marked_block _ _ _ _ _ _ _ _ c.loop-block.invariant flags (sym c.requires.size) block w.block_end-end.result
          w.settle_range-count.result w.settle_range-count.new.present.items refl below to w.settle_range-count.ensures.count
          w.settle_range-count.ensures.size w.settle_range-count.ensures.image w.settle_range-count.ensures.untouched in
          rw (w.count-is, w.present-is) more
      | else-index w ↦
          let unmarked : get_or marked block false ≡ false = sym (get_or_read marked block c.index.result.now inside c.index.ensures false)
          ∙ w.if-index.false in
          rw (w.count-is, w.present-is) (unmarked_block _ _ _ _ _ _ _ _ c.loop-block.invariant flags
          (sym c.requires.size) block marked refl c.requires.covered unmarked)
    ]

pub returns-clause-image : goal.returns-clause-image
returns-clause-image c =
    let flags : length c.args.touched.now ≡ length c.loop-block.present.items =
    omega (arith, c.requires.flags, c.requires.size, c.loop-block.invariant.size) in
    let size : length c.args.synced.now ≡ length c.loop-block.present.items = omega (arith, c.requires.size, c.loop-block.invariant.size) in
    sym (settled_last c.args.picks.now c.loop-block.count (c.loop-block.block * 4096) c.args.touched.now c.args.synced.now
    c.loop-block.present.items flags size none) ∙ c.loop-block.invariant.so_far
  where
    none : (k : ℕ) → c.loop-block.block * 4096 ≤ k → get_or c.args.touched.now k false ≡ false
    none k from = elim (cases_Bool (get_or c.args.touched.now k false)) [
      | inl touches ↦
          let before = c.args.marks.now.spanned.to (k / 4096) (c.requires.covered k touches) in
          absurd (omega (arith, before, from, c.loop-block-test.false))
      | inr untouched ↦ untouched
    ]
