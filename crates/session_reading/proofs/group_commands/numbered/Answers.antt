use Rattle.std.proofs.Common.{◌≡◌, ◌++◌, ◌≤◌, ◌^◌, ◌∙◌, ap, subst, arith}
use Rattle.std.specs.Prelude.{IfOk, codes, ◌+◌, ◌-◌}
use Rattle.std.proofs.Math.Path.{transport}
use Rattle.model.specs.Spool.{contents}
use Rattle.model.specs.Stream.{dot_line, line}
use Rattle.kernel_outbox.specs.Numbers.{number_lines}
use Rattle.kernel_outbox.specs.Lines.{Reply}
use Rattle.session_replies.specs.Answered.{Answered, answered, replied_with, with_group}
use Rattle.session_reading.specs.Words.{count_in, counted, first_in}
use Rattle.session_reading.proofs.InGroup.{listed_answer}
use Rattle.session_reading.proofs.group_commands.numbered.Goals as goal

pub returns : goal.returns
returns g c =
    let low = c.args.counts.low in
    let high = c.args.counts.high in
    let range = c.args.range.now in
    let first = c.numbers_in-numbers.result.first in
    let some : 1 ≤ low = omega (arith, c.requires.low) in
    let head = counted low high c.args.group.now ++ line (codes " list follows") in
    let count : c.count.result ≡ count_in range low high =
    c.count.ensures ∙ (λ i. c.numbers_in-numbers.ensures.last i + 1 - c.numbers_in-numbers.ensures.first i) in
    let size : first + c.count.result ≤ 2 ^ 64 = omega (arith, c.count.ensures, c.numbers_in-numbers.ensures.to) in
    let small : first_in range low + count_in range low high ≤ 2 ^ 64 =
    transport (λ i. c.numbers_in-numbers.ensures.first i + count i ≤ 2 ^ 64) size in
    let items = ap (λ os. os ++ (number_lines first c.count.result ++ dot_line)) (c.in_ok-push_line.ensures
    ∙ ap (λ os. os ++ line (codes " list follows")) (c.in_ok-push_counted.ensures
    ∙ ap (λ os. os ++ counted low high c.args.group.now) c.in_ok-reply.ensures.items))
    ∙ (λ i. head ++ (number_lines (c.numbers_in-numbers.ensures.first i) (count i) ++ dot_line)) in
    subst (λ (a : Answered). IfOk c.selects.result (λ r. r ≡ a))
    (ap (λ (reply : Reply). replied_with reply (with_group c.args.session.now c.in_ok-name.name low (high + 1 - low)) c.args.counts.last)
    c.in_ok-reply-2.ensures
    ∙ (λ i. answered (listed_answer c.args.session.now range c.args.group.now
    (contents (g.L.LookUps.changes c.args.spool.now) c.args.group.now) low high _ _ c.requires.low c.requires.high some small items
    (ap (λ name. with_group c.args.session.now name low (high + 1 - low)) c.in_ok-name.ensures) i)
    (c.requires.last i)))
    c.selects.ensures
