use Rattle.std.proofs.Common.{arith, length, subst}
use Rattle.memchr.specs.Find.{Nowhere, NoneBefore, Passes, is_byte}
use Rattle.text_fields.proofs.LineLaws.{crlf_after, crlf_found, crlf_nowhere, slice_left}
use Rattle.text_fields.proofs.text_lines.crlf_in.Goals as goal
use Rattle.text_fields.proofs.text_lines.crlf_in.Goals.{else-at-gt0-via-then-at-gt0+else-text-at-eq13, else-at-gt0-via-else-at-gt0}

pub returns-then-text-at-eq13 : goal.returns-then-text-at-eq13
returns-then-text-at-eq13 c =
    let text = c.args.text.now in
    let left = slice_left text c.loop-place.from in
    crlf_found text c.loop-place.from c.in-Some.place c.loop-place.invariant
    (subst (λ l. NoneBefore (Passes (is_byte 10) l) 0 (length l) c.in-Some.place) left c.in-Some.ensures.0)
    (subst (λ l. Passes (is_byte 10) l c.in-Some.place) left c.in-Some.ensures.1) c.if-at-gt0.true c.if-text-at-eq13.true

pub loop-place-preserved : goal.loop-place-preserved
loop-place-preserved c =
    let text = c.args.text.now in
    let left = slice_left text c.loop-place.from in
    crlf_after text c.loop-place.from c.in-Some.place c.loop-place.invariant
    (subst (λ l. NoneBefore (Passes (is_byte 10) l) 0 (length l) c.in-Some.place) left c.in-Some.ensures.0)
    (elim c.else-at-gt0.branch [
      | else-at-gt0-via-then-at-gt0+else-text-at-eq13 w ↦ λ some. w.if-text-at-eq13.false
      | else-at-gt0-via-else-at-gt0 w ↦ λ some is. absurd (omega (arith, some, w.if-at-gt0.false))
    ])

pub returns : goal.returns
returns c =
    let text = c.args.text.now in
    crlf_nowhere text c.loop-place.from c.loop-place.invariant
    (subst (λ l. Nowhere (Passes (is_byte 10) l) 0 (length l)) (slice_left text c.loop-place.from) c.in_default.ensures)
