use Rattle.std.proofs.Common.{◌-◌, ◌∙◌, ap, arith, get_or, length}
use Rattle.session_replies.specs.Stuffing.{step}
use Rattle.session_replies.proofs.Dots.{past_two}
use Rattle.session_replies.proofs.stuffing.Stuffing.past.Goals as goal

pub returns-in-len2-up : goal.returns-in-len2-up
returns-in-len2-up c =
    let octets = c.args.octets.now in
    c.next-in-len2-up-2.ensures
    ∙ ap (λ u. step u (get_or octets (length octets - 1) 0)) c.next-in-len2-up.ensures
    ∙ past_two c.args.self octets (length octets - 2) (length octets - 1) (omega (arith, c.in-len2-up.len_at_least))
    (omega (arith, c.in-len2-up.len_at_least))
