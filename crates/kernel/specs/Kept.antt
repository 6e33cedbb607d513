-- The invariant that the lock keeps, whichever threads took it.
use Rattle.std.specs.Prelude.{◌≤◌, ◌<◌, length, IfSome, All}
use Rattle.model.specs.Layout.{Holds}
use Rattle.model.specs.Volume.{AreDistinct}
use Rattle.kernel.specs.Kernel.{KernelView}
use Rattle.kernel_seats.specs.Kept.{IsSeat, RiseFrom}

pub record IsKept (kernel : KernelView) : Type 0 where
  -- the cached blocks hold the spool
  pub cache : Holds kernel.host kernel.inodes kernel.blocks kernel.spool
  pub durable : kernel.durable ≤ length kernel.spool
  pub flying : IfSome kernel.in_flight (λ last. (kernel.durable ≤ last) × (last ≤ length kernel.spool))
  pub few_dirty : length kernel.dirty ≤ 512
  pub below : All (λ n. n < length kernel.blocks) kernel.dirty
  pub distinct : AreDistinct kernel.dirty
  pub few_seats : length kernel.seats ≤ kernel.most
  pub few : kernel.most ≤ 4096
  pub seats : All (IsSeat kernel.host kernel.spool kernel.joined) kernel.seats
  pub rising : RiseFrom 0 kernel.seats
