-- The whole system as its callers see it: a journal over a device of the type D, what is served, and news of the device.
use Rattle.std.specs.Prelude.{ℕ, List}
use Rattle.kernel.specs.Kernel.{KernelView}
use Rattle.kernel_trace.specs.Traced.{TracedView}
use Rattle.journal.specs.Journal.{JournalView}

-- what a device call answered
pub data News : Type 0 where
  -- the batch in flight, up to this serial, is durable
  IsDurable : (last : ℕ) → News
  HasFailed : News

pub record WorldView (D : Type 0) : Type 0 where
  pub journal : JournalView D
  pub served : TracedView
  -- the news that the kernel has yet to learn, the oldest first
  pub untold : List News

abbrev pub kernel_of : {D : Type 0} → WorldView D → KernelView
kernel_of world = world.served.kernel

-- the sessions and the kernel change, and the device stays as it is
abbrev pub with_served : {D : Type 0} → WorldView D → TracedView → WorldView D
with_served world served = record { journal = world.journal; served = served; untold = world.untold }
