use Rattle.program_changes.proofs.Staying.{stays_done}
use Rattle.program_changes.proofs.group.Goals as goal

pub returns : goal.returns
returns g c = stays_done _ c.group_in.result c.outcome.result c.outcome.ensures.ok c.outcome.ensures.err c.group_in.ensures
