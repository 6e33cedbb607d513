use Rattle.std.proofs.Common.{rules}
use Rattle.session_reading.proofs.ranges.count.Goals as goal

pub returns : goal.returns
returns c = search rules
