use Rattle.server_operator_lines.proofs.Drops.{drops_nothing}
use Rattle.server_operator_lines.proofs.requests.dropped_by.Goals as goal

-- src/requests.rt:52:1
pub returns-in-Some-clause-none : goal.returns-in-Some-clause-none
returns-in-Some-clause-none c =
    drops_nothing c.args.line.now c.in-Some.word.now c.read.result c.in-Some.ensures.cases.1 c.read.ensures.none
