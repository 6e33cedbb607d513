use Rattle.volume_usage.proofs.Counted.{bits_used}
use Rattle.volume_usage.proofs.bitmap.bits_are_used_blocks.Goals as goal

pub returns : goal.returns
returns c = bits_used
