-- The spool as its callers see it, and what a change leaves of it.
use Rattle.std.specs.Prelude.{◌≡◌, ◌<◌, ℕ, List, [], ◌∷◌, ◌++◌, length, slice_index_or}
use Rattle.std.specs.List.{Contains}
use Rattle.model.specs.Stream.{Octets}
use Rattle.model.specs.Spool.{Spool}
use Rattle.model.specs.declared.change.Change.{Change}
pub use Rattle.spool_growing.specs.Growing.{Dirties}
use Rattle.spool_growing.specs.Kept.{IsHeld}

-- its host, the inodes of its volume, the accepted changes, the cached blocks, which hold them, and the numbers of the
-- blocks that no batch has taken since they changed
pub record SpoolView : Type 0 where
  pub host : Octets
  pub inodes : ℕ
  pub changes : Spool
  pub blocks : List Octets
  pub dirty : List ℕ
  pub sound : ∥ IsHeld host inodes blocks changes ∥₁

-- a block that isn't dirty, with its octets
pub record IsClean (s : SpoolView) (k : ℕ) (octets : Octets) : Type 0 where
  pub there : k < length s.blocks
  pub clean : Contains s.dirty k → ⊥
  pub octets_are : octets ≡ slice_index_or s.blocks k []
  pub whole : length octets ≡ 4096

-- what holds for every spool
abbrev pub IsSpool : SpoolView → Type 0
IsSpool s = IsHeld s.host s.inodes s.blocks s.changes

-- this change is accepted
pub record Adds (before after : SpoolView) (c : Change) : Type 0 where
  pub host : after.host ≡ before.host
  pub inodes : after.inodes ≡ before.inodes
  pub changes : after.changes ≡ before.changes ++ c ∷ []
  pub dirties : Dirties before.blocks after.blocks before.dirty after.dirty
