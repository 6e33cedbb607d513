use Rattle.std.proofs.Common.{◌∙◌, ◌++◌, ap, append_assoc, codes}
use Rattle.model.specs.Replies.{information_follows}
use Rattle.model.specs.Stream.{Octets, line}
use Rattle.session_replies.proofs.blocks.push_overview_format.Goals as goal

pub returns : goal.returns
returns c =
    let before : Octets = c.args.reply.now.items in
    let fields : Octets =
    codes "Subject:\r\nFrom:\r\nDate:\r\nMessage-ID:\r\nReferences:\r\n:bytes\r\n:lines\r\n.\r\n" in
    c.in_ok-extend_from_slice.ensures.items ∙ ap (λ os. os ++ fields) c.in_ok-push_heading.ensures
    ∙ append_assoc before (line information_follows) fields
