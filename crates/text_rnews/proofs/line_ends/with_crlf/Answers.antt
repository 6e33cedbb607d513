use Rattle.std.proofs.Common.{◌+◌, ◌++◌, get_or, drop, sym, ◌∙◌, ap, arith, append_assoc, append-nil}
use Rattle.text_rnews.specs.LineEnds.{with_cr, with_crlf_after}
use Rattle.text_rnews.proofs.Lines.{with_crlf-step, with_crlf-none}
use Rattle.text_rnews.proofs.line_ends.with_crlf.Goals as goal

pub loop-octet-preserved : goal.loop-octet-preserved
loop-octet-preserved c =
    let text = c.args.octets.now in
    let at = c.loop-octet.octet-index in
    let before = c.loop-octet.before in
    let later = with_crlf_after (get_or text at 0) (drop (at + 1) text) in
    ap (λ items. items ++ later) c.in_ok-push_octet.ensures
    ∙ append_assoc c.loop-octet.text.items (with_cr before (get_or text at 0)) later
    ∙ ap (λ rest. c.loop-octet.text.items ++ rest) (sym (with_crlf-step before at text (omega arith)))
    ∙ c.loop-octet.invariant

pub returns : goal.returns
returns c =
    sym (append-nil c.loop-octet.text.items)
    ∙ ap (λ later. c.loop-octet.text.items ++ later) (sym (with_crlf-none c.loop-octet.before c.loop-octet.octet-index c.args.octets.now
    (omega arith)))
    ∙ c.loop-octet.invariant
