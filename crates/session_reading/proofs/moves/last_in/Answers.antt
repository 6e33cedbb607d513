use Rattle.std.proofs.Common.{rules}
use Rattle.session_reading.proofs.moves.last_in.Goals as goal

pub returns-in-Some-find_number : goal.returns-in-Some-find_number
returns-in-Some-find_number c = search rules

pub returns-in-None : goal.returns-in-None
returns-in-None c = search rules
