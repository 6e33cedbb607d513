use Rattle.std.proofs.Common.{◌≡◌, ◌++◌, ◌∷◌, [], List, ap, arith, map, rules, sym, ◌∙◌}
use Rattle.std.specs.Prelude.{Some}
use Rattle.program_rules.specs.Rules.{said}
use Rattle.program_rules.specs.declared.reading.Rule.{Rule}
use Rattle.program_rules.proofs.Lines.{bad_at, rule_at, skipped_at}
use Rattle.program_rules.proofs.reading.read_rules.Goals as goal

pub lines-preserved-then-is_skipped : goal.lines-preserved-then-is_skipped
lines-preserved-then-is_skipped c =
    skipped_at c.args.lines.now c.lines.place _ c.lines.rules.items (omega (arith, c.lines-test.true)) c.lines.invariant
    (sym c.is_skipped.ensures ∙ c.if-is_skipped.true)

pub returns-in-Err-Bad-clause-bad : goal.returns-in-Err-Bad-clause-bad
returns-in-Err-Bad-clause-bad c =
    bad_at c.args.lines.now c.lines.place _ c.lines.rules.items (omega (arith, c.lines-test.true)) c.lines.invariant
    (sym c.is_skipped.ensures ∙ c.if-is_skipped.false) (c.in-Err-Bad.ensures.bad c.in-Err-Bad.field-0-is)

pub lines-preserved : goal.lines-preserved
lines-preserved c =
    let pushed : c.push.new.self.items ≡ c.lines.rules.items ++ c.in-Ok.rule ∷ [] = search rules in
    rule_at c.args.lines.now c.lines.place _ c.lines.rules.items (omega (arith, c.lines-test.true)) c.lines.invariant c.in-Ok.rule
    (sym c.is_skipped.ensures ∙ c.if-is_skipped.false) c.in-Ok.ensures.ok
    ∙ ap (λ (rs : List Rule). Some (map said rs)) (sym pushed)
