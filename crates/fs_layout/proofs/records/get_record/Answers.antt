use Rattle.std.proofs.Common.{rules}
use Rattle.fs_layout.proofs.records.get_record.Goals as goal

pub returns : goal.returns
returns c = search rules
