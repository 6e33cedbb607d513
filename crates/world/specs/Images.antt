-- External synchrony of the images that a crash may leave.
use Rattle.std.specs.Prelude.{◌≡◌, ◌⊎◌, ℕ, ◌≤◌, Some, IsTrue}
use Rattle.disk.specs.Device.{Device}
use Rattle.model.specs.Stream.{Octets}
use Rattle.model.specs.Spool.{Spool}
use Rattle.model.specs.News.{Stands, service}
use Rattle.kernel.specs.Kernel.{KernelView}
use Rattle.synchrony.specs.Synchrony.{IsExternallySynchronous}
use Rattle.kernel_trace.specs.Traced.{Trace, arrived_at, first_spool, released_at}
use Rattle.world.specs.World.{WorldView, kernel_of}

-- External synchrony of an image, with p changes left: it stands for a spool, and that spool and what each session was
-- released are externally synchronous with the trace from the spool S, where these octets arrived.
pub record IsSynchronous (host : Octets) (S : Spool) (inputs : ℕ → Octets) (trace : Trace) (released : ℕ → Octets) (p : ℕ) (image : Octets)
    : Type 0 where
  -- the changes that the disk opens to
  pub recovered : Spool
  pub stands : Stands host image recovered
  -- they are the first p changes, and a plain server with these changes alone has sent what was released
  pub synchronous : IsExternallySynchronous (service host) S inputs trace released p recovered

-- how many changes a crash may leave: the durable ones, or those up to the last of the batch in flight; no other number
abbrev pub MayBeLeft : KernelView → ℕ → Type 0
MayBeLeft kernel p = (p ≡ kernel.durable) ⊎ (kernel.in_flight ≡ Some p)

-- the image is externally synchronous with the trace and the released octets of this moment
abbrev pub Fits : {D : Type 0} → WorldView D → Octets → Type 0
Fits world image =
    (p : ℕ) × MayBeLeft (kernel_of world) p
    × IsSynchronous (kernel_of world).host (first_spool world.served) (arrived_at world.served) world.served.trace
    (released_at world.served) p image

-- each image that a crash at some moment of a call might have left
abbrev pub EachSince : Device → Device → (Octets → Type 0) → Type 0
EachSince old new P = IsTrue old.tells → (image : Octets) → new.left_since old.clock image → P image

-- each image that a crash now may leave
abbrev pub EachNow : Device → (Octets → Type 0) → Type 0
EachNow device P = IsTrue device.tells → (image : Octets) → device.may_leave image → P image

-- a crash since an earlier time might have left only what it might have left before the call, or such an image
abbrev pub LeftFits : Device → Device → (Octets → Type 0) → Type 0
LeftFits old new P = IsTrue old.tells → (t : ℕ) (image : Octets) → t ≤ old.clock → new.left_since t image → old.left_since t image ⊎ P image

-- the image stands for no spool
abbrev pub StandsForNone : Octets → Type 0
StandsForNone image = (host : Octets) (S : Spool) → Stands host image S → ⊥

-- what a crash during an opening leaves stands for the spool of an image that a crash at the start might have left
abbrev pub KeepsSpools : Device → Device → Type 0
KeepsSpools old new = EachSince old new (λ image. (earlier : Octets) × old.may_leave earlier × ((host : Octets) (S : Spool)
    → Stands host earlier S → Stands host image S))
