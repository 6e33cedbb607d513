-- A device in memory as its callers see it, and what each call leaves.
use Rattle.std.specs.Prelude.{ℕ, Bool, true, false, if◌then◌else◌, List, length, replicate}
use Rattle.disk.specs.Device.{Device, one_more}
use Rattle.disk.specs.Image.{overwritten}
use Rattle.disk_memory.specs.Memory.{IsCrashImage}
use Rattle.disk_memory.specs.Picks.{picked_from}
use Rattle.disk_memory.specs.Plans.{fails_next, plan_after}
use Rattle.disk.specs.declared.DiskCall.{DiskCall}
use Rattle.disk.specs.declared.DiskCall.TheVariants.{Read, Write, Sync}
use Rattle.disk_memory.specs.declared.Pick.{Pick}
use Rattle.disk_memory.specs.declared.Plan.{Plan}
use Rattle.disk_memory.specs.declared.Plan.TheVariants.{Never}

-- a device in memory at one moment
pub record MemoryView : Type 0 where
  -- the octets of the last good sync
  pub synced : List ℕ
  -- the octets that a read gives
  pub present : List ℕ
  -- which octets were written since the last good sync
  pub touched : List Bool
  -- which call fails
  pub plan : Plan
  -- the numbers of calls that were asked and that failed
  pub reads : ℕ
  pub writes : ℕ
  pub syncs : ℕ
  pub failures : ℕ

-- Its meaning as a device. It keeps no record of past calls: for each earlier time it gives the images of the present.
abbrev pub device_of : MemoryView → Device
device_of m = record {
  size = length m.synced;
  tells = true;
  content = m.present;
  may_leave = IsCrashImage m.synced m.touched;
  clock = 0;
  left_since = λ t. IsCrashImage m.synced m.touched;
  reads = m.reads;
  writes = m.writes;
  syncs = m.syncs;
  failures = m.failures;
}

-- zeros, all of them synced, with no call and no failure pending
abbrev pub blank : ℕ → MemoryView
blank len = record {
  synced = replicate len 0;
  present = replicate len 0;
  touched = replicate len false;
  plan = Never;
  reads = 0;
  writes = 0;
  syncs = 0;
  failures = 0;
}

-- what any call leaves of the plan and the count of failures
abbrev pub asked : DiskCall → MemoryView → MemoryView
asked call m = record m { plan = plan_after call m.plan; failures = if fails_next call m.plan then one_more m.failures else m.failures }

-- a read leaves all octets
abbrev pub after_read : MemoryView → MemoryView
after_read m = record (asked Read m) { reads = one_more m.reads }

-- a write puts its octets in and touches them, even if it fails
abbrev pub after_write : ℕ → List ℕ → MemoryView → MemoryView
after_write at from m = record (asked Write m) {
  present = overwritten at from m.present;
  touched = overwritten at (replicate (length from) true) m.touched;
  writes = one_more m.writes;
}

-- all octets synced and none touched
abbrev pub all_synced : List ℕ → MemoryView → MemoryView
all_synced image m = record m { synced = image; present = image; touched = replicate (length m.touched) false }

-- a sync makes what a read gives durable; if it fails, the octets and the touched ones stay as they are
abbrev pub after_sync : MemoryView → MemoryView
after_sync m = if fails_next Sync m.plan then record (asked Sync m) { syncs = one_more m.syncs } else all_synced m.present
    (record (asked Sync m) { syncs = one_more m.syncs })

-- the image that a crash with these picks leaves
abbrev pub picked : List Pick → MemoryView → List ℕ
picked picks m = picked_from picks 0 m.touched m.synced m.present
