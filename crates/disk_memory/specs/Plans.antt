-- Which device call fails.
use Rattle.std.specs.Prelude.{ℕ, ◌-◌, ◌&&◌, Bool, true, false, eqb, if◌then◌else◌}
use Rattle.disk.specs.declared.DiskCall.{DiskCall}
use Rattle.disk.specs.declared.DiskCall.TheVariants.{Read, Write, Sync}
use Rattle.disk_memory.specs.declared.Plan.{Plan}
use Rattle.disk_memory.specs.declared.Plan.TheVariants.{Never, Any, Kind}

-- whether two calls are of one kind
abbrev pub is_kind : DiskCall → DiskCall → Bool
is_kind Read Read = true
is_kind Write Write = true
is_kind Sync Sync = true
is_kind kind call = false

-- whether the next call fails, by its kind
abbrev pub fails_next : DiskCall → Plan → Bool
fails_next call Never = false
fails_next call (Any n) = eqb n 0
fails_next call (Kind kind n) = is_kind kind call && eqb n 0

-- the plan after that call; a plan is for one call
abbrev pub plan_after : DiskCall → Plan → Plan
plan_after call Never = Never
plan_after call (Any n) = if eqb n 0 then Never else Any (n - 1)
plan_after call (Kind kind n) = if is_kind kind call then (if eqb n 0 then Never else Kind kind (n - 1)) else Kind kind n

-- the plan for the n-th call from now, counted from 1; 0 plans none
abbrev pub plan_for : ℕ → Plan
plan_for n = if eqb n 0 then Never else Any (n - 1)

-- the n-th call of a kind from now
abbrev pub plan_for_kind : DiskCall → ℕ → Plan
plan_for_kind kind n = if eqb n 0 then Never else Kind kind (n - 1)
