use Rattle.volume_usage.proofs.Counted.{set_rest}
use Rattle.volume_usage.proofs.bitmap.used_blocks.Goals as goal

pub returns : goal.returns
returns c = set_rest c.args.bitmap.now c.count_clear.result c.count_clear.ensures.clear
