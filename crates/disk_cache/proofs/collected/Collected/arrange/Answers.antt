use Rattle.std.proofs.Common.{refl, ◌∙◌, arith}
use Rattle.std.specs.BTreeMap.{get}
use Rattle.std.specs.Ordering.{nat_cmp}
use Rattle.disk_cache.proofs.Moving.{all_arranged, none_arranged, one_arranged}
use Rattle.disk_cache.proofs.Slots.{apart}
use Rattle.disk_cache.proofs.collected.Collected.arrange.Goals as goal

pub loop-block-init : goal.loop-block-init
loop-block-init c = record { so_far = none_arranged (get nat_cmp c.args.self.now.slots); same = λ k. refl }

pub move_slot-requires-clause-order : goal.move_slot-requires-clause-order
move_slot-requires-clause-order c =
    c.loop-block.invariant.so_far.above c.in-Some.block c.in-Some.before c.in-Some.ensures.next.low c.in-Some.ensures.next.has

pub overflow_add-slot : goal.overflow_add-slot
overflow_add-slot c = omega (arith, c.loop-block.invariant.so_far.few, c.in-Some.ensures.next.low, c.in-Some.ensures.few)

pub loop-block-preserved : goal.loop-block-preserved
loop-block-preserved c = record {
  so_far = one_arranged c.loop-block.from c.loop-block.slot c.in-Some.block c.in-Some.before (get nat_cmp c.loop-block.self.slots)
      (get nat_cmp c.move_slot.new.self.slots) c.loop-block.invariant.so_far c.in-Some.ensures.next
      (apart (get nat_cmp c.loop-block.self.slots) c.loop-block.self.owners.items c.loop-block.self.fills.items
      c.loop-block.self.flags.items c.loop-block.self.octets.items c.loop-block.self.sound)
      c.move_slot.ensures.moved;
  same = λ k. c.move_slot.ensures.same k ∙ c.loop-block.invariant.same k;
}

pub returns-clause-arranged : goal.returns-clause-arranged
returns-clause-arranged c =
    all_arranged c.loop-block.from c.loop-block.slot (get nat_cmp c.loop-block.self.slots) c.loop-block.invariant.so_far
    (c.in_default.ensures.none refl)
