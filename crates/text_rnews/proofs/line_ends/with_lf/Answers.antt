use Rattle.std.proofs.Common.{◌+◌, ◌++◌, get_or, drop, sym, ◌∙◌, ap, arith, append_assoc, append-nil, List, [], ◌∷◌, ℕ}
use Rattle.std.proofs.lemmas.Bool.{cond-false, cond-true}
use Rattle.text_rnews.specs.LineEnds.{with_lf}
use Rattle.text_rnews.proofs.Lines.{with_lf-step, with_lf-none}
use Rattle.text_rnews.proofs.line_ends.with_lf.Goals as goal
use Rattle.text_rnews.proofs.line_ends.with_lf.Goals.{then-not-is_crlf_at+in_ok-push, else-not-is_crlf_at}

pub loop-at-preserved : goal.loop-at-preserved
loop-at-preserved c =
    elim c.if-not-is_crlf_at.branch [
      | then-not-is_crlf_at+in_ok-push w ↦
          ap (λ items. items ++ later) (ap (λ v. v.items) w.text-is ∙ w.in_ok-push.ensures.items)
          ∙ append_assoc c.loop-at.text.items (get_or text at 0 ∷ []) later
          ∙ ap (λ front. c.loop-at.text.items ++ (front ++ later)) (sym
          (cond-false _ [] (get_or text at 0 ∷ []) (sym c.is_crlf_at.ensures ∙ w.if-not-is_crlf_at.true)))
          ∙ ap (λ rest. c.loop-at.text.items ++ rest) (sym (with_lf-step at text (omega arith)))
          ∙ c.loop-at.invariant
      | else-not-is_crlf_at w ↦
          ap (λ v. v.items ++ later) w.text-is
          ∙ ap (λ front. c.loop-at.text.items ++ (front ++ later)) (sym
          (cond-true _ [] (get_or text at 0 ∷ []) (sym c.is_crlf_at.ensures ∙ w.if-not-is_crlf_at.false)))
          ∙ ap (λ rest. c.loop-at.text.items ++ rest) (sym (with_lf-step at text (omega arith)))
          ∙ c.loop-at.invariant
    ]
  where
    text : List ℕ
    text = c.args.octets.now

    at : ℕ
    at = c.loop-at.at

    later : List ℕ
    later = with_lf (drop (at + 1) text)

pub returns : goal.returns
returns c =
    sym (append-nil c.loop-at.text.items)
    ∙ ap (λ later. c.loop-at.text.items ++ later) (sym (with_lf-none c.loop-at.at c.args.octets.now (omega arith)))
    ∙ c.loop-at.invariant
