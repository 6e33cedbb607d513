-- What a spool keeps besides its blocks.
use Rattle.std.specs.Prelude.{◌≡◌, ℕ, List}
use mathlib.Core.HLevel.{is_prop→PathP}
use mathlib.Core.Path.{PathP}
use Rattle.std.proofs.Math.Logic.{∥∥₁_elim, ∥∥₁_prop}
use Rattle.std.proofs.Props.{props}
use Rattle.model.specs.Indexed.{FilePlaces}
use Rattle.model.specs.Spool.{Spool}
use Rattle.model.specs.Stream.{Octets}
use Rattle.model.proofs.HoldsOne.{holds_one}
use Rattle.spool_index.specs.View.{IndexView}
use Rattle.journal_volume.specs.Volume.{VolumeView}
use Rattle.spool_growing.specs.Kept.{IsHeld, IsKept}

-- the changes that the blocks hold
pub record StandsIn (host : Octets) (inodes : ℕ) (blocks : List Octets) : Type 0 where
  pub changes : Spool
  pub held : ∥ IsHeld host inodes blocks changes ∥₁

pub spool_set : (S R : Spool) → IsProp (S ≡ R)
spool_set = Prim.hlevel props

-- there is at most one list of changes that the blocks hold
pub one_stands : (host : Octets) (inodes : ℕ) (blocks : List Octets) → IsProp (StandsIn host inodes blocks)
one_stands host inodes blocks p q = λ i. record { changes = same i; held = along i } where
  same : p.changes ≡ q.changes
  same = ∥∥₁_elim p.held (spool_set p.changes q.changes)
      (λ one. ∥∥₁_elim q.held (spool_set p.changes q.changes)
      (λ other. holds_one host host inodes blocks p.changes q.changes one.room.few one.held other.held))

  along : PathP (λ i. ∥ IsHeld host inodes blocks (same i) ∥₁) p.held q.held
  along = is_prop→PathP (λ i. ∥ IsHeld host inodes blocks (same i) ∥₁) (λ i. ∥∥₁_prop) p.held q.held

-- the blocks hold some changes, and all that is kept agrees with them
pub record CanStand (host : Octets) (inodes : ℕ) (volume : VolumeView) (index : IndexView) (places : FilePlaces) : Type 0 where
  pub changes : Spool
  pub kept : IsKept host inodes volume index places changes
