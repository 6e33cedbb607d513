use Rattle.std.proofs.Common.{◌≡◌, subst}
use Rattle.std.specs.Prelude.{IfOk}
use Rattle.session_posting.specs.Outcomes.{Replied, said}
use Rattle.session_posting.proofs.Telling.{said_bad}
use Rattle.session_posting.proofs.posts.ihave_block.Goals as goal

pub returns-in-Err : goal.returns-in-Err
returns-in-Err g c =
    subst (λ (s : Replied). IfOk c.refuse.result (λ step. said step ≡ s))
    (said_bad (g.L.LookUps.changes c.args.spool.now) c.args.session.now c.args.moment c.args.id.now c.args.reading c.in-Err.cause
    c.in-Err.ensures.bad)
    c.refuse.ensures
