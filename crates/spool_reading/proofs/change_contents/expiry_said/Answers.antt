use Rattle.std.proofs.Common.{rules, sym, ◌∙◌}
use Rattle.std.proofs.lemmas.Bool.{true≢false}
use Rattle.spool_reading.proofs.Saying.{expiry_is, expiry_serial, no_expiry, other_expiry}
use Rattle.spool_reading.proofs.change_contents.expiry_said.Goals as goal

pub returns-then-not-is_serial : goal.returns-then-not-is_serial
returns-then-not-is_serial c =
    other_expiry c.args.digits.now c.args.content.now c.args.serial
    (λ same. true≢false (sym (c.is_serial.ensures.1 same) ∙ c.if-not-is_serial.true))

pub returns-in_default : goal.returns-in_default
returns-in_default c = λ d is. no_expiry c.args.digits.now c.args.content.now c.in_default.ensures c.args.serial d is

pub returns-then-said-serial : goal.returns-then-said-serial
returns-then-said-serial c =
    let said = c.in-Some.said in
    λ d is. c.if-said-serial.true (sym
    (expiry_serial c.args.serial said.serial said.number said.group.now _ c.args.content.now d (search rules) c.in-Some.ensures is))

pub returns : goal.returns
returns c =
    let said = c.in-Some.said in
    expiry_is c.args.serial said.serial said.number said.group.now c.args.digits.now c.args.content.now (search rules) (search rules)
    (c.is_serial.ensures.0 (search rules)) c.if-said-serial.false c.in-Some.ensures
