-- What a copy of the device's blocks is, as a backup makes one between two batches.
use Rattle.std.specs.Prelude.{◌≡◌, ℕ, Bool, true, IsTrue, [], None, slice_index_or, take}
use Rattle.kernel.specs.Kernel.{is_clean}
use Rattle.model.specs.News.{Stands}
use Rattle.model.specs.Stream.{Octets}
use Rattle.model.specs.Volume.{StandsFor, format_number}
use Rattle.world.specs.World.{WorldView, kernel_of}

-- between two batches, on a device that tells its octets
pub record IsCopied {D : Type 0} (world : WorldView D) : Type 0 where
  -- a clean block has the octets in memory that it has on the device
  pub clean : (k : ℕ) → is_clean (kernel_of world) k ≡ true
      → slice_index_or world.journal.blocks k [] ≡ slice_index_or (kernel_of world).blocks k []
  -- a volume of the device's blocks, with its label and format, stands for the durable changes
  pub opens : (image : Octets) → StandsFor image world.journal.label world.journal.blocks → format_number image ≡ world.journal.format
      → Stands (kernel_of world).host image (take (kernel_of world).durable (kernel_of world).spool)

abbrev pub MayBeCopied : {D : Type 0} → Bool → WorldView D → Type 0
MayBeCopied tells world = IsTrue tells → (kernel_of world).in_flight ≡ None → IsCopied world
