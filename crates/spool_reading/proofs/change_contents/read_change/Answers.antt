use Rattle.spool_reading.proofs.Saying.{no_kind}
use Rattle.spool_reading.proofs.change_contents.read_change.Goals as goal

pub returns-in-None : goal.returns-in-None
returns-in-None c = λ d is. no_kind c.args.name.now c.args.content.now c.in-None.ensures c.args.serial d is
