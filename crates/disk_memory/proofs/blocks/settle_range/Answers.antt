use Rattle.std.proofs.Common.{◌≡◌, ◌<◌, ℕ, length, get_or, ◌∙◌, ap, arith}
use Rattle.std.proofs.lemmas.List.{get_or_read}
use Rattle.disk_memory.specs.Picks.{octet_of, pick_for}
use Rattle.disk_memory.specs.declared.Pick.{Pick}
use Rattle.disk_memory.proofs.Picking.{touched_more, untouched_more}
use Rattle.disk_memory.proofs.blocks.settle_range.Goals as goal
use Rattle.disk_memory.proofs.blocks.settle_range.Goals.{then-touched-at, else-touched-at}

pub loop-at-preserved : goal.loop-at-preserved
loop-at-preserved c =
    let at = c.loop-at.at in
    let first = c.args.present.now.items in
    let within : at < length first = omega (arith, c.loop-at-test.true, c.requires.present) in
    elim c.if-touched-at.branch [
      | then-touched-at w ↦
          let inside : at < length c.loop-at.present.items = omega (arith, within, c.loop-at.invariant.size) in
          let new = get_or_read c.loop-at.present.items at w.index.result.now inside w.index.ensures 0 in
          let picked : w.octet.result ≡ octet_of (pick_for c.args.picks.now c.loop-at.count) (get_or c.args.synced.now at 0)
          (get_or c.loop-at.present.items at 0) =
          w.octet.ensures
          ∙ ap (λ (p : Pick). octet_of p (get_or c.args.synced.now at 0) w.index.result.now) w.pick_at.ensures
          ∙ ap (λ (o : ℕ). octet_of (pick_for c.args.picks.now c.loop-at.count) (get_or c.args.synced.now at 0) o) new in
          rw (w.count-is, w.present-is) (touched_more _ _ _ _ _ _ _ _ c.loop-at.invariant c.requires.touched c.requires.synced
          w.octet.result within w.if-touched-at.true picked)
      | else-touched-at w ↦ rw (w.count-is, w.present-is)
          (untouched_more _ _ _ _ _ _ _ _ c.loop-at.invariant c.requires.touched c.requires.synced within w.if-touched-at.false)
    ]
