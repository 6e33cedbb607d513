use Rattle.std.proofs.Common.{◌≡◌, ap, subst, sym, ◌∙◌}
use Rattle.std.specs.Prelude.{IfOk, None}
use Rattle.model.specs.Answer.{line_answer, served}
use Rattle.model.specs.Commands.{parsed_line}
use Rattle.model.specs.Reads.{line_reads, served_reads}
use Rattle.model.specs.declared.command.Parsed.{Parsed}
use Rattle.model.specs.declared.message.Message.{Message}
use Rattle.model.specs.declared.session.Answer.{Answer}
use Rattle.model.specs.declared.session.Awaits.TheVariants as awaits
use Rattle.model.proofs.Own.{line_none}
use Rattle.session_grammar.specs.Arguments.{IsParsed}
use Rattle.session_posting.specs.Outcomes.{said}
use Rattle.session_replies.specs.Answered.{Answers}
use Rattle.session.specs.Steps.{IsStep, step_of}
use Rattle.session.proofs.Stepping.{line_step, no_lines, ok_step}
use Rattle.session.proofs.messages.at_line.Goals as goal

pub line-requires : goal.line-requires
line-requires g c =
    let its = c.in_ok-parsed-in-Line.ensures in
    subst (λ (p : Parsed). IsParsed p) (sym its.is_parsed) (c.arguments_are_in_grammar.ensures its.line)

pub served-requires : goal.served-requires
served-requires g c =
    ap (λ (a : Answer). a.change) c.in_ok-answered-in-Line.ensures.answer_is
    ∙ line_none (g.L.LookUps.host_of c.args.spool.now) (g.L.LookUps.changes c.args.spool.now) c.args.session.now c.args.moment
    c.in_ok-parsed-in-Line.parsed

pub returns-in-Line : goal.returns-in-Line
unfolding served served_reads
returns-in-Line g c =
    let host = g.L.LookUps.host_of c.args.spool.now in
    let S = g.L.LookUps.changes c.args.spool.now in
    let made = g.L.Source.octets_of c.args.spool.now in
    let keeps = g.L.Source.keeps c.args.spool.now in
    let x = c.args.session.now in
    let t = c.args.moment in
    let its = c.in_ok-parsed-in-Line.ensures in
    let answers = subst (λ (p : Parsed). Answers made keeps c.in_ok-answered-in-Line.answered (line_answer host S x t p)
    (line_reads host S x t p)) its.is_parsed c.in_ok-answered-in-Line.ensures in
    subst (λ (m : Message). IsStep made keeps (said c.served.result) (step_of host S x t awaits.Line m)) (sym its.is_line)
    (line_step made keeps (said c.served.result) c.in_ok-answered-in-Line.answered (line_answer host S x t (parsed_line its.line))
    (line_reads host S x t (parsed_line its.line)) answers (line_none host S x t (parsed_line its.line)) c.served.ensures)

pub returns-in-Block : goal.returns-in-Block
unfolding served served_reads
returns-in-Block g c =
    let host = g.L.LookUps.host_of c.args.spool.now in
    let S = g.L.LookUps.changes c.args.spool.now in
    let x = c.args.session.now in
    let t = c.args.moment in
    ok_step (g.L.Source.octets_of c.args.spool.now) (g.L.Source.keeps c.args.spool.now) said c.bad.result
    (step_of host S x t awaits.Line c.args.received) (no_lines host S x t awaits.Line c.args.received)
    (subst (λ (m : Message). IfOk c.bad.result (λ step. said step ≡ step_of host S x t awaits.Line m))
    (sym c.in-Block.is ∙ c.message.ensures)
    c.bad.ensures)

pub returns : goal.returns
unfolding served served_reads
returns g c =
    let host = g.L.LookUps.host_of c.args.spool.now in
    let S = g.L.LookUps.changes c.args.spool.now in
    let x = c.args.session.now in
    let t = c.args.moment in
    ok_step (g.L.Source.octets_of c.args.spool.now) (g.L.Source.keeps c.args.spool.now) said c.bad-in-TooLong.result
    (step_of host S x t awaits.Line c.args.received) (no_lines host S x t awaits.Line c.args.received)
    (subst (λ (m : Message). IfOk c.bad-in-TooLong.result (λ step. said step ≡ step_of host S x t awaits.Line m))
    (sym c.in-TooLong.is ∙ c.message.ensures)
    c.bad-in-TooLong.ensures)
