use Rattle.std.proofs.Common.{rules}
use Rattle.spool_records.proofs.names.file_name.Goals as goal

pub returns : goal.returns
returns c = search rules
