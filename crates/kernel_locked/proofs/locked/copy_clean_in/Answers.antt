use Rattle.std.proofs.Common.{◌+◌, length, get_or, take, sym, subst}
use Rattle.copy_portions.specs.Copying.{PortionView}
use Rattle.kernel.specs.Kernel.{is_clean}
use Rattle.kernel_locked.specs.Locked.{Copies}
use Rattle.kernel_locked.proofs.Copying.{full_copied, has_room, is_false, one_copied, one_left_out}
use Rattle.kernel_locked.proofs.locked.copy_clean_in.Goals as goal
use Rattle.kernel_locked.proofs.locked.copy_clean_in.Goals.{in-Some, in_default}

pub returns-then-is_full : goal.returns-then-is_full
returns-then-is_full c =
    full_copied c.args.kernel.now c.args.numbers.now c.args.into.now c.loop-number.number-index c.loop-number.into c.loop-number.invariant
    (c.is_full.ensures.0 c.if-is_full.true)

pub loop-number-preserved : goal.loop-number-preserved
loop-number-preserved c =
    let kernel = c.args.kernel.now in
    let numbers = c.args.numbers.now in
    let old = c.args.into.now in
    let at = c.loop-number.number-index in
    let now = c.loop-number.into in
    let h = c.loop-number.invariant in
    elim c.match-clean_block.branch [
      | in-Some w ↦
          let clean = w.in-Some.ensures.clean in
          let free = has_room c.is_full.result (length now.numbers) c.is_full.ensures c.if-is_full.false in
          subst (λ (p : PortionView). Copies kernel (take (at + 1) numbers) old p) (sym w.into-is)
          (one_copied kernel numbers old at now h c.loop-number-test.true free clean.clean w.push.new.self w.in-Some.octets.now
          clean.octets_are w.push.ensures.numbers w.push.ensures.images)
      | in_default w ↦
          subst (λ (p : PortionView). Copies kernel (take (at + 1) numbers) old p) (sym w.into-is)
          (one_left_out kernel numbers old at now h c.loop-number-test.true
          (is_false (is_clean kernel (get_or numbers at 0)) (λ yes. absurd (cc (w.in_default.ensures.when.1 yes)))))
    ]
