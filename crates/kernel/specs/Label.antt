-- The contents of a label, and when it is not valid.
use Rattle.std.specs.Prelude.{◌≡◌, ◌≤◌, ℕ, ◌+◌, ◌*◌, ◌/◌, ◌%◌}
use Rattle.model.specs.Stream.{Octets}
use Rattle.model.specs.Files.{first_data, most_inodes}
use Rattle.model.specs.Layout.{IsLabel}

-- a volume with this many blocks may have this many inodes
pub record HasRoom (inodes blocks : ℕ) : Type 0 where
  pub some : 64 ≤ inodes
  pub few : inodes ≤ most_inodes
  pub whole : inodes % 64 ≡ 0
  pub room : first_data blocks inodes + 256 ≤ blocks

-- it is not the label of any volume with this many blocks
abbrev pub IsNoLabel : Octets → ℕ → Type 0
IsNoLabel label blocks = (inodes : ℕ) (host : Octets) → IsLabel label blocks inodes host → ⊥
