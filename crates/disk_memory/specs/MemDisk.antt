-- A device in memory as its callers see it.
use Rattle.disk.specs.Device.{Device}
use Rattle.disk_memory.specs.Calls.{MemoryView, device_of}
use Rattle.disk_memory.specs.Memory.{IsCrashImage}
use Rattle.disk_memory.specs.declared.MemDisk.{MemDisk}

-- the fields that the contracts speak of
abbrev pub view : MemDisk → MemoryView
view m = record {
  synced = m.synced.items;
  present = m.present.items;
  touched = m.touched.items;
  plan = m.plan;
  reads = m.reads;
  writes = m.writes;
  syncs = m.syncs;
  failures = m.failures;
}

-- as a device
abbrev pub memory_device : MemDisk → Device
memory_device m = device_of (view m)

-- what a read gives is an image that a crash may leave
pub counts_content : (m : MemDisk) → IsCrashImage m.synced.items m.touched.items m.present.items
counts_content m = record {
  size = m.sound.size;
  kept = m.sound.same;
  octets = λ k touched. m.sound.octets k;
}
