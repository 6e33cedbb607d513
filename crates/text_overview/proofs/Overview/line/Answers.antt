use Rattle.std.proofs.Common.{◌++◌, ◌∙◌, ap, decimal, sym}
use Rattle.text_overview.specs.Rest.{overview_rest}
use Rattle.text_overview.proofs.RestLaws.{line-number-rest}
use Rattle.text_overview.proofs.Overview.line.Goals as goal

pub returns : goal.returns
returns c =
    let rest = c.deref.result.now in
    c.in_ok-extend_from_slice-2.ensures.items
    ∙ ap (λ o. o ++ rest) (c.in_ok-extend_from_slice.ensures.items ∙ ap (λ o. o ++ c.as_bytes-digits.result.now) c.in_ok-line.ensures.items
    ∙ c.as_bytes-digits.ensures.value ∙ c.format.ensures.text)
    ∙ ap (λ o. decimal c.args.number ++ o) (c.deref.ensures.value ∙ c.self.invariant ∙ ap overview_rest c.self.view_is)
    ∙ sym (line-number-rest c.args.number c.args.self.now)
