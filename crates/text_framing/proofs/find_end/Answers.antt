use Rattle.std.proofs.Common.{arith, ◌≡◌, ◌+◌, ◌-◌, ◌≤◌, length, sym, ◌∙◌, ap, length-drop}
use Rattle.std.proofs.lemmas.List.{take_rest}
use Rattle.text_framing.proofs.SearchLaws.{NoneEnds-skip, NoneEnds-lf, EndsFirst-lf, from_place}
use Rattle.text_framing.proofs.find_end.Goals as goal

pub returns-then-ends : goal.returns-then-ends
returns-then-ends c =
    let inv = c.loop-step.invariant in
    let found = c.in-Some.ensures in
    EndsFirst-lf c.args.mode c.args.stream.now c.args.searched c.loop-step.at inv.high inv.none c.in-Some.step inv.low
    (omega (arith, found.0.high, ap length (take_rest c.args.stream.now c.loop-step.at), length-drop c.loop-step.at c.args.stream.now))
    found.0.before (sym c.if-ends.ensures)

pub loop-step-preserved : goal.loop-step-preserved
loop-step-preserved c =
    let inv = c.loop-step.invariant in
    let found = c.in-Some.ensures in
    let fits : c.loop-step.at + (c.in-Some.step + 1) ≤ length c.args.stream.now =
    omega (arith, found.0.high, ap length (take_rest c.args.stream.now c.loop-step.at), length-drop c.loop-step.at c.args.stream.now) in
    record {
      low = omega (arith, inv.low);
      high = fits;
      none = NoneEnds-lf c.args.mode c.args.stream.now c.args.searched c.loop-step.at inv.high inv.none c.in-Some.step fits found.0.before
          (sym c.if-ends.ensures);
    }

pub returns : goal.returns
returns c n low high =
    let inv = c.loop-step.invariant in
    let rest : length (from_place c.loop-step.at c.args.stream.now) ≡ length c.args.stream.now - c.loop-step.at =
    ap length (take_rest c.args.stream.now c.loop-step.at) ∙ length-drop c.loop-step.at c.args.stream.now in
    NoneEnds-skip c.args.mode c.args.stream.now c.args.searched c.loop-step.at inv.high inv.none (length c.args.stream.now - c.loop-step.at)
    (omega arith)
    (λ k zero below. c.in_default.ensures k zero (omega arith)) n low (omega arith)
