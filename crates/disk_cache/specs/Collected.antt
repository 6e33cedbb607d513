-- Collected octets: for each place of the device the one collected, if any.
use Rattle.std.specs.Prelude.{◌≡◌, ◌⊎◌, ◌<◌, ℕ, List, [], ◌∷◌, length, slice_index, slice_index_or, Option, Some, None}
use Rattle.disk.specs.Device.{Device}

-- the octets that a read gives: the collected ones over the device's
abbrev pub shown : List (Option ℕ) → List ℕ → List ℕ
shown [] octets = octets
shown (c ∷ collected) [] = []
shown (None ∷ collected) (octet ∷ octets) = octet ∷ shown collected octets
shown (Some c ∷ collected) (octet ∷ octets) = c ∷ shown collected octets

-- an octet that a crash may leave: the device's own or, where one was collected, any octet
abbrev pub MayBe : Option ℕ → ℕ → ℕ → Type 0
MayBe None under octet = octet ≡ under
MayBe (Some collected) under octet = (octet ≡ under) ⊎ ((octet ≡ collected) ⊎ (octet < 256))

-- an image that a crash may leave over an image of the device: the collected ranges count as written since the last good sync
pub record IsOver (collected : List (Option ℕ)) (under image : List ℕ) : Type 0 where
  pub size : length image ≡ length under
  pub octets : (k : ℕ) → MayBe (slice_index_or collected k None) (slice_index under k) (slice_index image k)

-- and that image is one that a crash may leave of the device
abbrev pub MayLeave : Device → List (Option ℕ) → List ℕ → Type 0
MayLeave device collected image = (under : List ℕ) × (device.may_leave under × IsOver collected under image)
