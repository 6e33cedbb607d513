-- A device over another one, as a device. Nothing is claimed of its octets here: the clauses of its calls say them by those of the
-- device below and the octets that were written.
use Rattle.std.specs.Prelude.{false, []}
use Rattle.disk.specs.Device.{Device}
use Rattle.disk_overlay.specs.declared.Overlay.{Overlay}
use Rattle.disk_cache.specs.Cache.{cache_device}

-- it answers, and counts calls and failures, which are those of the device below
abbrev pub overlay_device : {D : Type 0} → (D → Device) → Overlay D → Device
overlay_device device o = record {
  size = (device o.below.disk).size;
  tells = false;
  content = [];
  may_leave = λ image. Unit {0};
  clock = (device o.below.disk).clock;
  left_since = λ t image. Unit {0};
  reads = o.below.reads;
  writes = o.below.writes;
  syncs = o.syncs;
  failures = (device o.below.disk).failures;
}
