use Rattle.std.proofs.Common.{◌+◌, ◌≤◌, length, refl, ap, arith, length-drop}
use Rattle.std.proofs.lemmas.List.{take_rest}
use Rattle.session_replies.proofs.Dots.{dot_here, dot_within, last_dot, last_line, past_line}
use Rattle.session_replies.proofs.stuffing.Stuffing.line_dot.Goals as goal

pub returns-then-past : goal.returns-then-past
returns-then-past c =
    let xs = c.args.octets.now in
    let at = c.loop-ahead.at in
    let found = c.in-Some.ensures in
    dot_here c.args.self c.past.result xs _ _ at c.in-Some.ahead (take_rest xs at) refl c.loop-ahead.invariant.plain found.0 c.past.ensures
    found.1 c.if-past.true

pub returns-in_err-ending : goal.returns-in_err-ending
returns-in_err-ending c =
    let xs = c.args.octets.now in
    let at = c.loop-ahead.at in
    rw c.from_residual.ensures
    (last_line c.args.self c.past.result xs _ _ at c.in-Some.ahead (take_rest xs at) refl c.loop-ahead.invariant.plain c.in-Some.ensures.0
    c.past.ensures _ (take_rest xs (at + c.in-Some.ahead)) c.if-past.false c.in_err-ending.ensures)

pub loop-ahead-preserved : goal.loop-ahead-preserved
loop-ahead-preserved c =
    let xs = c.args.octets.now in
    let at = c.loop-ahead.at in
    let dot = at + c.in-Some.ahead in
    let first = c.in-Some.ensures.0 in
    let line = c.in_ok-ending.ensures.0 in
    let plain = c.loop-ahead.invariant.plain in
    let low = dot_within c.args.self c.past.result xs _ _ at c.in-Some.ahead (take_rest xs at) refl plain first c.past.ensures in
    let size = ap length (take_rest xs dot) in
    let within : dot + c.in_ok-ending.ending + 1 ≤ length xs = omega (arith, line.high, size, length-drop dot xs) in
    record {
      within = within;
      plain = past_line c.args.self c.past.result xs _ _ at c.in-Some.ahead (take_rest xs at) refl plain first c.past.ensures _
          c.in_ok-ending.ending (take_rest xs dot) c.if-past.false line.before (omega arith);
    }

pub returns : goal.returns
returns c =
    let xs = c.args.octets.now in
    let at = c.loop-ahead.at in
    last_dot c.args.self xs _ at (take_rest xs at) c.loop-ahead.invariant.plain c.in_default.ensures
