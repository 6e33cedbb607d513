use Rattle.std.proofs.Common.{◌++◌, sym, ◌∙◌, ap}
use Rattle.std.specs.List.{join_with_byte}
use Rattle.model.specs.Stream.{crlf}
use Rattle.text_husks.proofs.Joined.{front, husk_is, middle, pieces}
use Rattle.text_husks.proofs.husk.Goals as goal

pub returns : goal.returns
returns c =
    c.in_ok-extend_from_slice-3.ensures.items
    ∙ ap (λ o. o ++ (crlf ++ crlf)) (c.in_ok-push_joined.ensures
    ∙ ap (λ o. o ++ join_with_byte 44 c.args.groups.now) (c.in_ok-extend_from_slice-2.ensures.items
    ∙ ap (λ o. o ++ middle) (c.in_ok-extend_from_slice.ensures.items ∙ ap (λ o. o ++ c.args.id.now) c.in_ok-text.ensures.items)))
    ∙ pieces front c.args.id.now middle (join_with_byte 44 c.args.groups.now) (crlf ++ crlf)
    ∙ sym (husk_is c.args.id.now c.args.groups.now)
