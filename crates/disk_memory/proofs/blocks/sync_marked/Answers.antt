use Rattle.std.proofs.Common.{◌≡◌, ◌<◌, ◌+◌, ◌-◌, ◌*◌, ◌≤◌, Bool, false, ℕ, List, length, get_or, replicate, sym, ◌∙◌, ap, subst, refl}
use Rattle.std.proofs.Common.{arith}
use Rattle.std.proofs.lemmas.List.{get_or_read}
use Rattle.disk.specs.Image.{overwritten}
use Rattle.disk_memory.proofs.Syncing.{IsSyncedTo, marked_more, unmarked_more, all_present, none_touched}
use Rattle.disk_memory.proofs.blocks.sync_marked.Goals as goal
use Rattle.disk_memory.proofs.blocks.sync_marked.Goals.{then-index, else-index}

pub loop-block-preserved : goal.loop-block-preserved
loop-block-preserved c =
    let block = c.loop-block.block in
    let marked = c.args.marks.now.blocks.items in
    let present = c.args.present.now in
    let inside : block < length marked = omega (arith, c.loop-block-test.true, c.args.marks.now.spanned.within) in
    elim c.if-index.branch [
      | then-index w ↦
          let below : block * 4096 ≤ length present = omega (arith, inside, c.requires.blocks, c.requires.size) in
          let more = marked_more _ _ _ _ _ c.loop-block.invariant (block * 4096) w.block_end.result refl below w.block_end.ensures in
          let octets = subst (λ (synced : List ℕ). IsSyncedTo (block + 1) marked present synced
          (overwritten (block * 4096) (replicate (w.block_end.result - block * 4096) false) c.loop-block.touched.items))
          (sym w.sync_range.ensures.synced) more in
          let flags = subst (λ (touched : List Bool). IsSyncedTo (block + 1) marked present w.sync_range.new.synced.items touched)
          (sym w.sync_range.ensures.touched) octets in
          rw (w.synced-is, w.touched-is) flags
      | else-index w ↦
          let unmarked : get_or marked block false ≡ false = sym (get_or_read marked block c.index.result.now inside c.index.ensures false)
          ∙ w.if-index.false in
          rw (w.synced-is, w.touched-is) (unmarked_more _ _ _ _ _ c.loop-block.invariant unmarked)
    ]

pub returns-clause-synced : goal.returns-clause-synced
returns-clause-synced c =
    all_present _ _ _ _ _ c.loop-block.invariant (λ b marked. let before = c.args.marks.now.spanned.to b marked in
    omega (arith, before, c.loop-block-test.false))

pub returns-clause-touched : goal.returns-clause-touched
returns-clause-touched c =
    none_touched _ _ _ _ _ c.loop-block.invariant (λ b marked. let before = c.args.marks.now.spanned.to b marked in
    omega (arith, before, c.loop-block-test.false))
    ∙ ap (λ (n : ℕ). replicate n false) (omega (arith, c.loop-block.invariant.flags, c.requires.flags, c.requires.size))
