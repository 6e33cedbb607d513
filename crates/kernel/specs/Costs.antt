-- What an opening costs.
use Rattle.std.specs.Prelude.{ℕ, ◌+◌}
use Rattle.disk.specs.Device.{Device}
use Rattle.journal.specs.Opening.{IsMore, home_syncs, home_writes}
use Rattle.kernel.specs.Opening.{upgrade_calls}
use Rattle.model.specs.Stream.{Octets}
use Rattle.model.specs.Volume.{format_number, open_segments}

-- The writes and syncs asked since a device had that content: one sync first, the calls that carry its open segments
-- home, and those that make it a volume of format 3.
pub record CostsToOpen (content : Octets) (old new : Device) : Type 0 where
  pub writes : IsMore (home_writes content (open_segments content) + upgrade_calls (format_number content)) old.writes new.writes
  pub syncs : IsMore (1 + home_syncs content (open_segments content) + upgrade_calls (format_number content)) old.syncs new.syncs
