use Rattle.std.proofs.Common.{arith}
use Rattle.spool_texts.proofs.Runs.{part_of_run}
use Rattle.spool_texts.proofs.overview_parts.part_of.Goals as goal

pub returns : goal.returns
returns c = λ content run.
    part_of_run content c.args.octets.now c.args.at c.args.start c.args.stop _ run c.requires.low c.requires.order (omega arith)
    (omega arith)
