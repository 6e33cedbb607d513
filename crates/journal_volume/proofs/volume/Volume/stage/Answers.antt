use Rattle.std.proofs.Common.{rules}
use Rattle.journal_volume.proofs.volume.Volume.stage.Goals as goal

pub returns : goal.returns
returns c = search rules
