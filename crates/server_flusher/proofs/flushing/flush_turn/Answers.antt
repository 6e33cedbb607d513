use Rattle.std.proofs.Common.{rules}
use Rattle.server_flusher.proofs.flushing.flush_turn.Goals as goal

pub returns-in-Err-clause-stopped : goal.returns-in-Err-clause-stopped
returns-in-Err-clause-stopped c = search rules
