use Rattle.std.proofs.Common.{rules}
use Rattle.journal_volume.proofs.volume.Volume.dirty_len.Goals as goal

pub returns : goal.returns
returns c = search rules
