-- The contents of a change's file.
use Rattle.std.specs.Prelude.{◌≡◌, ◌<◌, ℕ}
use Rattle.model.specs.Stream.{Octets}
use Rattle.model.specs.Calendar.{moment_limit}
use Rattle.model.specs.FileKinds.{HasRoomInFile}
use Rattle.model.specs.Spool.{IsEnvelope}
use Rattle.model.specs.SpoolFiles.{change_file}
use Rattle.model.specs.declared.change.Change.{Change}
use Rattle.model.specs.declared.change.Change.TheVariants as change
use Rattle.spool_reading.specs.declared.change_contents.StoredChange.{StoredChange}
use Rattle.spool_reading.specs.declared.change_contents.StoredChange.TheVariants as said

-- the change that the contents describe
abbrev pub change_of : StoredChange → Change
change_of (said.Group group) = change.Group group
change_of (said.Article text envelope) = change.Article (record { text = text.now; envelope = envelope })
change_of (said.Expiry group number) = change.Expire (record { group = group.now; number = number })

-- the moment of the change, if it has one, is before the year 10000
abbrev pub IsInTime : Change → Type 0
IsInTime (change.Group g) = g.moment < moment_limit
IsInTime (change.Article f) = IsEnvelope f.envelope
IsInTime (change.Expire e) = Unit {0}

-- the file with this name and content is that of this change with this serial, and the change is in time
pub record IsFileOf (serial : ℕ) (c : Change) (name content : Octets) : Type 0 where
  pub room : HasRoomInFile serial c
  pub in_time : IsInTime c
  pub file : change_file (record { serial = serial; change = c }) ≡ record { name = name; content = content }
