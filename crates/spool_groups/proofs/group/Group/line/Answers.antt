use Rattle.std.proofs.Common.{◌-◌, ◌<◌, ◌∙◌, sym, ap, length, arith}
use Rattle.std.proofs.lemmas.List.{length-map, get_or-map}
use Rattle.spool_groups.specs.declared.group.Line.{Line}
use Rattle.spool_groups.proofs.Searching.{start_at}
use Rattle.spool_groups.proofs.group.Group.line.Goals as goal

pub returns-else-place-eq0-clause-from : goal.returns-else-place-eq0-clause-from
returns-else-place-eq0-clause-from c =
    let xs = c.args.self.now.lines.items in
    let low : c.args.number - 1 - 1 < length xs = omega (arith, c.requires.here, length-map xs (λ (l : Line). l.serial)) in
    ap (λ (l : Line). l.end) c.index-else-place-eq0.ensures
    ∙ sym (get_or-map (λ (l : Line). l.end) xs (c.args.number - 1 - 1) c.index-else-place-eq0.result.now 0 low)
    ∙ sym (start_at _ (c.args.number - 1) (λ none. absurd (omega (arith, c.if-place-eq0.false))))
