-- What a step of a copy does.
use Rattle.std.specs.Prelude.{◌≡◌, ◌*◌, Bool, false, List, length, take}
use Rattle.copy_portions.specs.Copying.{PortionView, flagged}
use Rattle.journal_volume.specs.Volume.{BatchView}

-- a portion has the blocks of a batch and no others, and the copy lacks them no more
pub record GetsBatch (batch : BatchView) (old new : List Bool) (portion : PortionView) : Type 0 where
  pub numbers : portion.numbers ≡ batch.numbers
  -- the octets of each, laid end to end
  pub images : portion.images ≡ take (4096 * length batch.numbers) batch.images
  pub flags : new ≡ flagged false old batch.numbers
