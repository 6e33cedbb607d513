use Rattle.model.proofs.HoldsOne.{empty_none}
use Rattle.model.proofs.filed.empty_blocks_hold_no_change.Goals as goal

pub returns : goal.returns
returns c = empty_none
