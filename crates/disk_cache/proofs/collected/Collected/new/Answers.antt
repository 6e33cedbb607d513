use Rattle.std.proofs.Common.{◌/◌}
use Rattle.std.specs.BTreeMap.{get}
use Rattle.std.specs.Ordering.{nat_cmp}
use Rattle.disk_cache.proofs.Slots.{empty_map, none_without_slot}
use Rattle.disk_cache.proofs.collected.Collected.new.Goals as goal

pub returns : goal.returns
returns c k =
    none_without_slot (get nat_cmp c.new.result) c.new-3.result.items c.new-4.result.items c.new-5.result.items k
    (empty_map c.new.result c.new.ensures.empty (k / 4096))
