use Rattle.std.proofs.Common.{◌≡◌, ℕ, ◌+◌, ◌-◌, ◌*◌, ◌/◌, List, length, get_or, ◌∙◌, ap, subst, arith}
use Rattle.std.specs.BTreeMap.{get}
use Rattle.std.specs.Ordering.{nat_cmp}
use Rattle.disk_cache.proofs.Adjacent.{IsAdjacentTo, few_blocks, none_behind}
use Rattle.disk_cache.proofs.Slots.{next_slot, none_without_slot}
use Rattle.disk_cache.proofs.collected.Collected.next_slots.Goals as goal

pub adjacent_past-requires-clause-few : goal.adjacent_past-requires-clause-few
adjacent_past-requires-clause-few c =
    rw c.deref.ensures.value
    (λ i below. c.args.self.now.sound.few (get_or c.args.self.now.owners.items i 0) i (c.args.self.now.sound.owned i below))

pub returns-in-Some-clause-few : goal.returns-in-Some-clause-few
returns-in-Some-clause-few c =
    let next = next_slot c.args.self.now.slots c.args.from c.range.result (c.range.ensures.in_range tt) _ _ c.in-Some.ensures.steps in
    let adjacent = subst (λ (bs : List ℕ). IsAdjacentTo bs c.in-Some.slot.now c.adjacent_past.result) c.deref.ensures.value
    (record {
      low = c.adjacent_past.ensures.low;
      high = c.adjacent_past.ensures.high;
      adjacent = c.adjacent_past.ensures.adjacent;
      ends = c.adjacent_past.ensures.ends;
    }) in
    let few = few_blocks (get nat_cmp c.args.self.now.slots) c.args.self.now.owners.items c.args.self.now.fills.items
    c.args.self.now.flags.items c.args.self.now.octets.items c.args.self.now.sound c.in-Some.block.now c.in-Some.slot.now
    c.adjacent_past.result next.has adjacent in
    omega (arith, few, c.cut.ensures.block, c.cut.ensures.slots.fills_size)

pub returns-in-Some-clause-last : goal.returns-in-Some-clause-last
returns-in-Some-clause-last c =
    let next = next_slot c.args.self.now.slots c.args.from c.range.result (c.range.ensures.in_range tt) _ _ c.in-Some.ensures.steps in
    let adjacent = subst (λ (bs : List ℕ). IsAdjacentTo bs c.in-Some.slot.now c.adjacent_past.result) c.deref.ensures.value
    (record {
      low = c.adjacent_past.ensures.low;
      high = c.adjacent_past.ensures.high;
      adjacent = c.adjacent_past.ensures.adjacent;
      ends = c.adjacent_past.ensures.ends;
    }) in
    let none = none_behind (get nat_cmp c.args.self.now.slots) c.args.self.now.owners.items c.args.self.now.fills.items
    c.args.self.now.flags.items c.args.self.now.octets.items c.args.self.now.sound c.in-Some.block.now c.in-Some.slot.now
    c.adjacent_past.result next.has adjacent c.requires in
    let at : 4096 * (c.cut.result.block + length c.cut.result.fills.now) / 4096
    ≡ c.in-Some.block.now + (c.adjacent_past.result - c.in-Some.slot.now) =
    omega (arith, c.cut.ensures.block, c.cut.ensures.slots.fills_size) in
    none_without_slot (get nat_cmp c.args.self.now.slots) c.args.self.now.fills.items c.args.self.now.flags.items
    c.args.self.now.octets.items (4096 * (c.cut.result.block + length c.cut.result.fills.now))
    (ap (λ (b : ℕ). get nat_cmp c.args.self.now.slots b) at ∙ none)
