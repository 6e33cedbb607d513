use Rattle.std.specs.BTreeMap.{get}
use Rattle.std.specs.Ordering.{nat_cmp}
use Rattle.disk_cache.proofs.Slots.{cut_slots}
use Rattle.disk_cache.proofs.collected.Collected.cut.Goals as goal

pub returns-clause-slots : goal.returns-clause-slots
returns-clause-slots c =
    rw (c.deref.ensures.value, c.deref-2.ensures.value, c.deref-3.ensures.value)
    (cut_slots (get nat_cmp c.args.self.now.slots) c.args.self.now.owners.items c.args.self.now.fills.items c.args.self.now.flags.items
    c.args.self.now.octets.items c.args.self.now.sound c.args.block c.args.slot c.args.past c.requires.order c.requires.there
    c.requires.adjacent)
