-- A copy of a volume on its device.
use Rattle.std.specs.Prelude.{◌≡◌, ℕ, List}
use Rattle.model.specs.Volume.{StandsFor, format_number}
use Rattle.volume_new.specs.Formatting.{IsLaid}

-- some blocks at home, behind zeros
pub record HasHome (blocks : ℕ) (image : List ℕ) : Type 0 where
  pub homes : List (List ℕ)
  pub laid : IsLaid blocks homes image

-- a valid volume with this label, this format and these logical blocks
pub record IsCopyOf (label : List ℕ) (format : ℕ) (blocks : List (List ℕ)) (image : List ℕ) : Type 0 where
  pub stands : StandsFor image label blocks
  pub has_format : format_number image ≡ format
