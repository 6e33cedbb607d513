use Rattle.std.proofs.Common.{rules, ◌<◌, length, sym, ◌∙◌, arith}
use Rattle.spool_records.proofs.Cuts.{name_left}
use Rattle.spool_records.proofs.records_of_articles.cut_names.Goals as goal

pub returns-in_default : goal.returns-in_default
returns-in_default c = λ names rest count is.
    let fewer : length c.loop.names.items < length names = omega (arith, c.loop.invariant.count, c.loop-test.true, count) in
    let left = name_left c.loop.names.items names c.loop.rest.now rest fewer (sym c.loop.invariant.cut ∙ is) in
    c.in_default.ensures left.0 left.1.0 left.1.1

pub loop-init : goal.loop-init
loop-init c = search rules

pub returns : goal.returns
returns c = search rules
