use Rattle.std.proofs.Common.{rules}
use Rattle.text_framing.proofs.shed.Goals as goal

pub returns : goal.returns
returns c = search rules

pub returns-then-len-le-HOLD_LIMIT : goal.returns-then-len-le-HOLD_LIMIT
returns-then-len-le-HOLD_LIMIT c = search rules
