use Rattle.model.proofs.HoldsOne.{changes_few, holds_one}
use Rattle.model.proofs.filed.blocks_hold_one_spool.Goals as goal

pub returns : goal.returns
returns c = record { one = holds_one; few = changes_few }
