use Rattle.std.proofs.Common.{rules}
use Rattle.spool_records.proofs.records_of_groups.read_group.Goals as goal

pub returns : goal.returns
returns c = search rules
