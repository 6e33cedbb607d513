-- A write-back cache as its callers see it, and as a device.
use Rattle.std.specs.Prelude.{◌⊎◌, ℕ, List, Option}
use Rattle.disk.specs.Device.{Device}
use Rattle.disk_cache.specs.Collected.{MayLeave, shown}

-- a cache over a device of the type D
pub record CacheView (D : Type 0) : Type 0 where
  pub disk : D
  -- for each place of the device the octet collected since the last good sync, if any
  pub collected : List (Option ℕ)
  -- the numbers of reads, writes and syncs that the cache was asked for, each as a u64 that wraps
  pub reads : ℕ
  pub writes : ℕ
  pub syncs : ℕ

-- Its meaning as a device. A failure is one of the device below.
abbrev pub cache_device : {D : Type 0} → (D → Device) → CacheView D → Device
cache_device device cache = record {
  size = (device cache.disk).size;
  tells = (device cache.disk).tells;
  content = shown cache.collected (device cache.disk).content;
  may_leave = MayLeave (device cache.disk) cache.collected;
  clock = (device cache.disk).clock;
  left_since = λ t image. (device cache.disk).left_since t image ⊎ MayLeave (device cache.disk) cache.collected image;
  reads = cache.reads;
  writes = cache.writes;
  syncs = cache.syncs;
  failures = (device cache.disk).failures;
}
