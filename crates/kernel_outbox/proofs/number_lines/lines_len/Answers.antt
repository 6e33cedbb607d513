use Rattle.std.proofs.Common.{◌≡◌, ℕ, ◌+◌, ◌-◌, ◌*◌, arith, ap, sym, ◌∙◌, subst, length, min}
use Rattle.std.proofs.Math.Path.{transport}
use Rattle.kernel_outbox.specs.Numbers.{number_lines}
use Rattle.kernel_outbox.proofs.Numbered.{Counted, none_more, some_more, all_counted}
use Rattle.kernel_outbox.proofs.number_lines.lines_len.Goals as goal
use Rattle.kernel_outbox.proofs.number_lines.lines_len.Goals.{then-counted-upper, else-counted-upper}

pub loop-digits-preserved : goal.loop-digits-preserved
loop-digits-preserved c =
    let l = c.loop-digits in
    let first = c.args.first in
    let count = c.args.count in
    let k : ℕ = l.digits - 1 in
    let next : k + 1 ≡ l.digits + 1 - 1 = omega arith in
    elim c.if-counted-upper.branch [
      | then-counted-upper w ↦
          let size : k + 3 ≡ w.from-then-counted-upper.result = omega (arith, w.from-then-counted-upper.ensures) in
          let octets : l.octets + (w.min-end.result - l.counted) * (k + 3) ≡ c.if-counted-upper.octets =
          ap (λ n. l.octets + (w.min-end.result - l.counted) * n) size ∙ sym w.octets-is in
          transport (λ i. Counted first count (sym w.counted-is i) (l.lower * 10) (octets i) (next i))
          (some_more first count l.counted l.lower l.octets k w.min-end.result c.requires.last (omega arith) l.invariant
          w.if-counted-upper.true (w.min-end.ensures ∙ (λ i. min (c.from.ensures i + c.from-2.ensures i) (l.lower * 10))))
      | else-counted-upper w ↦
          transport (λ i. Counted first count (sym w.counted-is i) (l.lower * 10) (sym w.octets-is i) (next i))
          (none_more first count l.counted l.lower l.octets k l.invariant w.if-counted-upper.false)
    ]

pub returns-clause-len : goal.returns-clause-len
returns-clause-len c =
    let l = c.loop-digits in
    let last : l.digits - 1 ≡ 20 = omega arith in
    let all = all_counted c.args.first c.args.count l.counted l.lower l.octets c.requires.last
    (subst (λ n. Counted c.args.first c.args.count l.counted l.lower l.octets n) last l.invariant) in
    l.invariant.octets_are ∙ ap (λ n. length (number_lines c.args.first n)) all

pub returns-clause-few : goal.returns-clause-few
returns-clause-few c =
    let l = c.loop-digits in
    omega (arith, l.invariant.few, l.invariant.to)
