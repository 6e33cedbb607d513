-- The collected octets by their places.
use Rattle.std.specs.Prelude.{ℕ, Option}
use Rattle.std.specs.BTreeMap.{get}
use Rattle.std.specs.Ordering.{nat_cmp}
use Rattle.disk_cache.specs.Slots.{octet_at}
use Rattle.disk_cache.specs.declared.collected.Collected.{Collected}

-- the octet that was collected for a place
abbrev pub taken : Collected → ℕ → Option ℕ
taken c k = octet_at (get nat_cmp c.slots) c.fills.items c.flags.items c.octets.items k
