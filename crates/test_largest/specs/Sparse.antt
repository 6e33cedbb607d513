-- A device that keeps only what was written. Nothing is claimed of its octets.
use Rattle.std.specs.Prelude.{false, []}
use Rattle.disk.specs.Device.{Device}
use Rattle.test_largest.specs.declared.sparse.Sparse.{Sparse}

-- it answers, and counts calls and failures; nothing is said of its content and images
abbrev pub sparse_device : Sparse → Device
sparse_device s = record {
  size = s.len;
  tells = false;
  content = [];
  may_leave = λ image. Unit {0};
  clock = 0;
  left_since = λ t image. Unit {0};
  reads = s.reads;
  writes = s.writes;
  syncs = s.syncs;
  failures = s.failures;
}
