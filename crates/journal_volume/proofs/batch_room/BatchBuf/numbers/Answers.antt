use Rattle.std.proofs.Common.{rules}
use Rattle.journal_volume.proofs.batch_room.BatchBuf.numbers.Goals as goal

pub returns : goal.returns
returns c = search rules
