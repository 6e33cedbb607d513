use Rattle.std.proofs.Common.{rules}
use Rattle.spool_records.proofs.expiries.expiry_record.Goals as goal

pub returns : goal.returns
returns c = search rules
