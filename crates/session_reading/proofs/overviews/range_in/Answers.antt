use Rattle.std.proofs.Common.{◌≡◌, ◌+◌, ◌++◌, ◌<◌, ◌≤◌, ◌^◌, length, sym, ◌∙◌, ap, subst, arith}
use Rattle.std.specs.Prelude.{IfOk}
use Rattle.model.specs.Answer as answers
use Rattle.model.specs.Replies.{overview_follows}
use Rattle.model.specs.Spool.{contents, filed_in, high, low}
use Rattle.model.specs.Stream.{dot_line, line}
use Rattle.model.proofs.HoldsOne.{high_few}
use Rattle.session_lookups.specs.Held.{overviews_between}
use Rattle.session_replies.specs.Answered.{Answered, answered}
use Rattle.session_replies.proofs.Lined.{lined_answers, ok_answers}
use Rattle.session_reading.specs.Words.{count_in, first_in, last_in}
use Rattle.session_reading.proofs.InGroup.{nothing_over, some_over}
use Rattle.session_reading.proofs.overviews.range_in.Goals as goal

pub returns-then-numbers : goal.returns-then-numbers
returns-then-numbers g c =
    let S = g.L.LookUps.changes c.args.spool.now in
    let counts = c.counts_of-counts.ensures in
    let numbers = c.numbers_in-numbers.ensures in
    let least = c.counts_of-counts.result.low in
    let most = c.counts_of-counts.result.high in
    let some : 1 ≤ least = omega (arith, counts.low) in
    let none : count_in c.args.range.now least most ≡ 0 = omega (arith, numbers.first, numbers.last, c.if-numbers.true) in
    let nothing = nothing_over c.args.session.now c.args.range.now least most (contents S c.args.group.now) counts.low counts.high some none
    in
    ok_answers (g.L.Source.octets_of c.args.spool.now) (g.L.Source.keeps c.args.spool.now) c.says_line.result _ _
    (subst (λ (a : Answered). IfOk c.says_line.result (λ r. r ≡ a)) (λ i. answered (sym nothing i) (counts.last i)) c.says_line.ensures)

pub returns : goal.returns
returns g c =
    let S = g.L.LookUps.changes c.args.spool.now in
    let name = c.args.group.now in
    let range = c.args.range.now in
    let counts = c.counts_of-counts.ensures in
    let numbers = c.numbers_in-numbers.ensures in
    let least = c.counts_of-counts.result.low in
    let most = c.counts_of-counts.result.high in
    let first = c.numbers_in-numbers.result.first in
    let last = c.numbers_in-numbers.result.last in
    let some : 1 ≤ least = omega (arith, counts.low) in
    let small : length (filed_in S name) + 1 < 2 ^ 64 = omega (arith, high_few S name, g.met.L.LookUps.few c.args.spool.now) in
    let any : 0 < count_in range least most = omega (arith, numbers.first, numbers.last, c.if-numbers.false) in
    let items = c.in_ok-push_heading.ensures ∙ ap (λ os. os ++ line overview_follows) c.new-reply.ensures.items in
    let from : first ≡ first_in range (low S name) = numbers.first ∙ ap (first_in range) counts.low in
    let to : last ≡ last_in range.last (high S name) = numbers.last ∙ ap (last_in range.last) counts.high in
    let made = g.L.Source.octets_of c.args.spool.now in
    let keeps = g.L.Source.keeps c.args.spool.now in
    let said : answers.says c.args.session.now (c.push_heading.new.reply.items ++ made c.overview_lines-lines.result)
    ≡ answers.over_range c.args.session.now range (contents S name) =
    ap (answers.says c.args.session.now) ((λ i. items i ++ c.overview_lines-lines.ensures.lines i)
    ∙ (λ i. line overview_follows ++ (overviews_between S name (from i) (to i) ++ dot_line)))
    ∙ sym (some_over c.args.session.now range least most (contents S name) counts.low counts.high some small any) in
    lined_answers made keeps c.outgoing.result c.args.session.now c.in_ok-copy.field-0 c.push_heading.new.reply.items
    c.overview_lines-lines.result c.in_ok-reply.reply (answers.over_range c.args.session.now range (contents S name)) _ _
    c.outgoing.ensures c.in_ok-reply.ensures c.in_ok-copy.ensures c.overview_lines-lines.ensures.kept said counts.last
