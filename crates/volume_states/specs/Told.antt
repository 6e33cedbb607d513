-- What is said of the volume on a device.
use Rattle.std.specs.Prelude.{ℕ, List, length}
use Rattle.model.specs.Layout.{IsLabel}
use Rattle.model.specs.Stream.{Octets}
use Rattle.model.specs.Volume.{StandsFor, format_number}
use Rattle.volume_states.specs.declared.state.VolumeStatus.{VolumeStatus}
use Rattle.volume_states.specs.State.{IsStatusOf}

-- the state of a volume of this format with this label and this number of blocks, which are these
pub record IsStateIn (format : ℕ) (label : Octets) (size : ℕ) (blocks : List Octets) (s : VolumeStatus) : Type 0 where
  pub inodes : ℕ
  pub host : Octets
  pub labelled : IsLabel label size inodes host
  pub state : IsStatusOf format host inodes blocks s

-- the state of the volume for which an image stands, in the format that the image has
pub record IsStateOf (image : Octets) (s : VolumeStatus) : Type 0 where
  pub label : Octets
  pub blocks : List Octets
  pub volume : StandsFor image label blocks
  pub state : IsStateIn (format_number image) label (length blocks) blocks s
