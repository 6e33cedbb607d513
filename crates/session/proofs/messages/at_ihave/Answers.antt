use Rattle.std.proofs.Common.{◌≡◌, ◌∙◌, ap, subst, sym}
use Rattle.std.specs.Prelude.{IfOk}
use Rattle.model.specs.Answer.{served}
use Rattle.model.specs.Reads.{served_reads}
use Rattle.model.specs.declared.message.Message.{Message}
use Rattle.model.specs.declared.session.Awaits.TheVariants as awaits
use Rattle.session_posting.specs.Outcomes.{Replied, said}
use Rattle.session.specs.Steps.{step_of}
use Rattle.session.proofs.Stepping.{transfer_step}
use Rattle.session.proofs.messages.at_ihave.Goals as goal

pub returns-in-Block : goal.returns-in-Block
returns-in-Block g c =
    let host = g.L.LookUps.host_of c.args.spool.now in
    let S = g.L.LookUps.changes c.args.spool.now in
    let x = c.args.session.now in
    let t = c.args.moment in
    let id = c.args.id.now in
    subst (λ (s : Replied). IfOk c.ihave_block.result (λ step. said step ≡ s))
    (transfer_step host S x t id c.in_ok-reading-in-Block.reading
    ∙ ap (step_of host S x t (awaits.IhaveBlock id)) c.in_ok-reading-in-Block.ensures)
    c.ihave_block.ensures

pub returns-in-TooLong : goal.returns-in-TooLong
unfolding served served_reads
returns-in-TooLong g c =
    let host = g.L.LookUps.host_of c.args.spool.now in
    let S = g.L.LookUps.changes c.args.spool.now in
    subst (λ (m : Message). IfOk c.refused.result (λ step. said step
    ≡ step_of host S c.args.session.now c.args.moment (awaits.IhaveBlock c.args.id.now) m))
    (sym c.in-TooLong.is ∙ c.message.ensures) c.refused.ensures

pub returns : goal.returns
unfolding served served_reads
returns g c =
    let host = g.L.LookUps.host_of c.args.spool.now in
    let S = g.L.LookUps.changes c.args.spool.now in
    subst (λ (m : Message). IfOk c.bad.result (λ step. said step
    ≡ step_of host S c.args.session.now c.args.moment (awaits.IhaveBlock c.args.id.now) m))
    (sym c.in-Line.is ∙ c.message.ensures) c.bad.ensures
