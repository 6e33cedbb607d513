use Rattle.std.proofs.Common.{rules}
use Rattle.spool_reading.proofs.change_contents.is_serial.Goals as goal

pub returns : goal.returns
returns c = search rules
