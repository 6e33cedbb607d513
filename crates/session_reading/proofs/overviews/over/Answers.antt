use Rattle.std.proofs.Common.{rules}
use Rattle.session_replies.proofs.Lined.{ok_answers}
use Rattle.session_reading.proofs.overviews.over.Goals as goal

pub returns-in-Current : goal.returns-in-Current
returns-in-Current g c = search (rules, ok_answers)

pub returns-in-Range : goal.returns-in-Range
returns-in-Range g c = search rules

pub returns-in-Id : goal.returns-in-Id
returns-in-Id g c = search (rules, ok_answers)
