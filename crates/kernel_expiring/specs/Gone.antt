-- How many articles are in none of their groups any more.
use Rattle.std.specs.Prelude.{◌≡◌, ℕ, ◌+◌, ◌-◌, Some, None, nat_lt, if◌then◌else◌, is_some, length, map, min}
use Rattle.std.specs.List.{filter, range_with_len}
use Rattle.session_lookups.specs.Held.{gone_with}
use Rattle.model.specs.Spool.{Spool}
use Rattle.kernel_expiring.specs.declared.gone.GonePart.{GonePart}

-- of so many serials from the first one on, those of articles that are gone
abbrev pub gone_among : Spool → ℕ → ℕ → ℕ
gone_among S first many = length (filter is_some (map (gone_with S) (range_with_len first many)))

-- a part has 4,096 serials, and the last one those that are left
abbrev pub part_length : Spool → ℕ → ℕ
part_length S first = min 4096 (length S + 1 - first)

-- the next part begins behind this one, if any serial is left there
pub record IsGonePart (S : Spool) (first : ℕ) (part : GonePart) : Type 0 where
  pub articles : part.articles ≡ gone_among S first (part_length S first)
  pub next : part.next ≡ (if nat_lt (length S) (first + 4096) then None else Some (first + 4096))
