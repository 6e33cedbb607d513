use Rattle.std.proofs.Common.{rules}
use Rattle.journal_volume.proofs.batch_room.BatchBuf.images.Goals as goal

pub returns : goal.returns
returns c = search rules
