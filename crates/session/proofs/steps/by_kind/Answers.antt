use Rattle.std.proofs.Common.{◌≡◌, rules, subst, sym}
use Rattle.std.specs.Prelude.{IfOk}
use Rattle.model.specs.declared.message.Message.{Message}
use Rattle.model.specs.declared.session.Awaits.{Awaits}
use Rattle.session_posting.specs.Outcomes.{said}
use Rattle.session.specs.Steps.{IsStep, step_of}
use Rattle.session.proofs.Stepping.{no_lines, ok_step}
use Rattle.session.proofs.steps.by_kind.Goals as goal

pub returns-in-Line : goal.returns-in-Line
returns-in-Line g c =
    let host = g.L.LookUps.host_of c.args.spool.now in
    let S = g.L.LookUps.changes c.args.spool.now in
    let made = g.L.Source.octets_of c.args.spool.now in
    let keeps = g.L.Source.keeps c.args.spool.now in
    subst (λ (what : Awaits). IfOk c.at_line.result (λ step. IsStep made keeps (said step)
    (step_of host S c.args.session.now c.args.moment what c.args.received)))
    (sym c.in-Line.is) c.at_line.ensures

pub returns-in-PostBlock : goal.returns-in-PostBlock
returns-in-PostBlock g c =
    let host = g.L.LookUps.host_of c.args.spool.now in
    let S = g.L.LookUps.changes c.args.spool.now in
    let x = c.args.session.now in
    ok_step (g.L.Source.octets_of c.args.spool.now) (g.L.Source.keeps c.args.spool.now) said c.at_post.result
    (step_of host S x c.args.moment x.awaits c.args.received) (no_lines host S x c.args.moment x.awaits c.args.received) (search rules)

pub returns-in-IhaveBlock : goal.returns-in-IhaveBlock
returns-in-IhaveBlock g c =
    let host = g.L.LookUps.host_of c.args.spool.now in
    let S = g.L.LookUps.changes c.args.spool.now in
    let x = c.args.session.now in
    ok_step (g.L.Source.octets_of c.args.spool.now) (g.L.Source.keeps c.args.spool.now) said c.at_ihave.result
    (step_of host S x c.args.moment x.awaits c.args.received) (no_lines host S x c.args.moment x.awaits c.args.received) (search rules)

pub returns : goal.returns
returns g c =
    let host = g.L.LookUps.host_of c.args.spool.now in
    let S = g.L.LookUps.changes c.args.spool.now in
    let made = g.L.Source.octets_of c.args.spool.now in
    let keeps = g.L.Source.keeps c.args.spool.now in
    let x = c.args.session.now in
    let t = c.args.moment in
    ok_step made keeps said c.at_nothing.result (step_of host S x t x.awaits c.args.received) (no_lines host S x t x.awaits c.args.received)
    (subst (λ (p : Awaits × Message). IfOk c.at_nothing.result (λ step. said step ≡ step_of host S x t p.0 p.1))
    (λ i. (sym c.in-Nothing.is i, c.message.ensures i)) c.at_nothing.ensures)
