use Rattle.std.proofs.Common.{rules}
use Rattle.spool.proofs.look_ups.SpoolLookUps.gone_at.Goals as goal

pub returns : goal.returns
returns c = search rules
