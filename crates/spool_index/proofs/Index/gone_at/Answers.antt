use Rattle.std.proofs.Common.{◌∙◌, sym}
use Rattle.spool_index.proofs.Serials.{none_there, still_there, taken_out}
use Rattle.spool_index.proofs.Index.gone_at.Goals as goal

pub returns-then-is_in_any : goal.returns-then-is_in_any
returns-then-is_in_any c = λ host S lawful is.
    still_there S c.args.serial c.in-Some.groups.now (c.in-Some.ensures S is) (sym (c.is_in_any.ensures host S lawful is)
    ∙ c.if-is_in_any.true)

pub returns-else-is_in_any : goal.returns-else-is_in_any
returns-else-is_in_any c = λ host S lawful is.
    taken_out S c.args.serial c.in-Some.groups.now c.last_taken.result (c.in-Some.ensures S is) (sym (c.is_in_any.ensures host S lawful is)
    ∙ c.if-is_in_any.false) (c.last_taken.ensures host S lawful is)

pub returns-in-None : goal.returns-in-None
returns-in-None c = λ host S lawful is. none_there S c.args.serial (c.in-None.ensures S is)
