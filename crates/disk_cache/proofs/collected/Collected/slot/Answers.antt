use Rattle.std.proofs.Common.{◌≡◌, ℕ, ◌+◌, ◌*◌, ◌/◌, sym, ◌∙◌, ap, arith}
use Rattle.std.specs.BTreeMap.{get}
use Rattle.std.specs.Ordering.{nat_cmp}
use Rattle.disk_cache.proofs.Slots.{none_without_slot}
use Rattle.disk_cache.proofs.collected.Collected.slot.Goals as goal

pub returns-in-None-clause-none : goal.returns-in-None-clause-none
returns-in-None-clause-none c none i low =
    let at : (4096 * c.args.block + i) / 4096 ≡ c.args.block = omega (arith, low) in
    none_without_slot (get nat_cmp c.args.self.now.slots) c.args.self.now.fills.items c.args.self.now.flags.items
    c.args.self.now.octets.items (4096 * c.args.block + i)
    (ap (λ (b : ℕ). get nat_cmp c.args.self.now.slots b) at ∙ sym c.in-None.ensures.value)
