use Rattle.program_changes.proofs.Staying.{stays_done}
use Rattle.program_changes.proofs.expire_to.Goals as goal

pub returns : goal.returns
returns g c = stays_done _ c.expire_in.result c.outcome.result c.outcome.ensures.ok c.outcome.ensures.err c.expire_in.ensures
