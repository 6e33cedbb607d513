-- A device over a file. Nothing is claimed of its octets.
use Rattle.std.specs.Prelude.{◌≡◌, false, [], Option, None, Some, Result, Ok, Err}
use Rattle.std.specs.IoError.{error_kind, raw_os_error}
use Rattle.std.specs.declared.io.Error.{Error}
use Rattle.disk_causes.specs.Causes.{cause_of}
use Rattle.disk_causes.specs.declared.Cause.{Cause}
use Rattle.disk.specs.Device.{Device}
use Rattle.disk_file.specs.declared.FileDisk.{FileDisk}

-- it answers, and counts calls and failures; nothing is said of its content and images
abbrev pub file_device : FileDisk → Device
file_device f = record {
  size = f.len;
  tells = false;
  content = [];
  may_leave = λ image. Unit {0};
  clock = 0;
  left_since = λ t image. Unit {0};
  reads = f.reads;
  writes = f.writes;
  syncs = f.syncs;
  failures = f.failures;
}

-- the length stays, and no call is counted
abbrev pub CountsNone : FileDisk → FileDisk → Type 0
CountsNone before after = (after.len ≡ before.len) × (after.reads ≡ before.reads) × (after.writes ≡ before.writes)
    × (after.syncs ≡ before.syncs) × (after.failures ≡ before.failures)

-- a refusal of the system as its cause
abbrev pub caused : Result (Unit {0}) Error → Result (Unit {0}) Cause
caused (Ok done) = Ok done
caused (Err error) = Err (cause_of (error_kind error) (raw_os_error error))

-- the cause of the first failure, after one more call
abbrev pub first_cause : Option Cause → Result (Unit {0}) Cause → Option Cause
first_cause (Some first) outcome = Some first
first_cause None (Ok _) = None
first_cause None (Err why) = Some why
