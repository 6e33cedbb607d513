use Rattle.std.proofs.Common.{◌∙◌, ap, arith}
use Rattle.std.specs.Prelude.{max}
use Rattle.model.specs.Spool.{expired_at}
use Rattle.spool_index.specs.Finding.{number_upto}
use Rattle.spool_index.proofs.Lists.{greatest_step}
use Rattle.spool_index.proofs.Index.last_taken.Goals as goal

pub loop-name-preserved : goal.loop-name-preserved
loop-name-preserved c = λ host S lawful is.
    c.max-last.ensures ∙ ap (max c.loop-name.last) (c.taken_at.ensures host S lawful is
    ∙ ap (λ g. expired_at S g (number_upto S g c.args.serial)) c.as_slice.ensures)
    ∙ greatest_step (λ g. expired_at S g (number_upto S g c.args.serial)) c.args.groups.now c.loop-name.name-index c.name-item.result
    c.loop-name.last
    (omega arith) c.name-item.is (c.loop-name.invariant host S lawful is)
