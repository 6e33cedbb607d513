use Rattle.std.proofs.Common.{ℕ, ◌/◌, List, length, ap}
use Rattle.std.specs.BTreeMap.{get}
use Rattle.std.specs.Ordering.{nat_cmp}
use Rattle.disk_cache.proofs.Slots.{empty_map, empty_sound, none_without_slot}
use Rattle.disk_cache.proofs.collected.Collected.clear.Goals as goal

pub invariant_of-self : goal.invariant_of-self
invariant_of-self c = record {
  sound =
      empty_sound (get nat_cmp c.clear.new.self) c.args.self.now.fills.items c.args.self.now.flags.items c.args.self.now.octets.items
      c.clear-2.new.self.items (empty_map c.clear.new.self c.clear.ensures.empty)
      (ap (λ (xs : List ℕ). length xs) c.clear-2.ensures.items) c.args.self.now.sound.octets_room;
}

pub returns-clause-none : goal.returns-clause-none
returns-clause-none c k =
    none_without_slot (get nat_cmp c.clear.new.self) c.args.self.now.fills.items c.args.self.now.flags.items c.args.self.now.octets.items k
    (empty_map c.clear.new.self c.clear.ensures.empty (k / 4096))
