use Rattle.std.proofs.Common.{rules}
use Rattle.spool_records.proofs.names.FileKind.front.Goals as goal

pub returns-in-Expiry : goal.returns-in-Expiry
returns-in-Expiry c = search rules
