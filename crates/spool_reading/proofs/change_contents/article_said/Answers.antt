use Rattle.std.proofs.Common.{rules, sym, ◌∙◌}
use Rattle.std.proofs.lemmas.Bool.{true≢false}
use Rattle.spool_reading.proofs.Saying.{article_is, article_serial, no_article, other_article}
use Rattle.spool_reading.proofs.change_contents.article_said.Goals as goal

pub returns-then-not-is_serial : goal.returns-then-not-is_serial
returns-then-not-is_serial c =
    other_article c.args.digits.now c.args.content.now c.args.serial
    (λ same. true≢false (sym (c.is_serial.ensures.1 same) ∙ c.if-not-is_serial.true))

pub returns-in_default : goal.returns-in_default
returns-in_default c = λ d is. no_article c.args.digits.now c.args.content.now (rw c.in_default.is at c.in_ok-said.ensures) c.args.serial d
    is

pub returns-then-said-serial : goal.returns-then-said-serial
returns-then-said-serial c =
    let said = c.in-Some.said in
    λ d is. c.if-said-serial.true (sym
    (article_serial c.args.serial said.serial (record { text = said.text.now; envelope = said.envelope }) _ c.args.content.now d
    (search rules) (rw c.in-Some.is at c.in_ok-said.ensures).1 is))

pub returns : goal.returns
returns c =
    let said = c.in-Some.said in
    let read = rw c.in-Some.is at c.in_ok-said.ensures in
    article_is c.args.serial said.serial (record { text = said.text.now; envelope = said.envelope }) c.args.digits.now c.args.content.now
    (search rules) c.requires (c.is_serial.ensures.0 (search rules)) c.if-said-serial.false read.0 read.1
