use Rattle.std.proofs.Common.{◌∙◌, ◌∷◌, ◌++◌, ap, append_assoc, codes}
use Rattle.std.specs.Prelude.{flat_map}
use Rattle.model.specs.Commands.{keyword_text, listing_text, listings}
use Rattle.model.specs.Replies.{capabilities_follow}
use Rattle.model.specs.Stream.{Octets, line}
use Rattle.model.specs.declared.command.Keyword.TheVariants as keyword
use Rattle.session_replies.proofs.blocks.push_capabilities.Goals as goal

pub returns : goal.returns
returns c =
    let before : Octets = c.args.reply.now.items in
    let fixed : Octets = codes "VERSION 2\r\nREADER\r\nIHAVE\r\nPOST\r\nNEWNEWS\r\nOVER MSGID\r\n" in
    let shown : Octets = flat_map (λ k. 32 ∷ listing_text k) listings in
    let to_fixed : Octets = line capabilities_follow ++ fixed in
    let to_list : Octets = to_fixed ++ keyword_text keyword.List in
    let to_shown : Octets = to_list ++ shown in
    let first = c.in_ok-extend_from_slice.ensures.items ∙ ap (λ os. os ++ fixed) c.in_ok-push_heading.ensures
    ∙ append_assoc before (line capabilities_follow) fixed in
    let second = c.in_ok-extend_from_slice-2.ensures.items ∙ ap (λ os. os ++ c.text.result.now) first
    ∙ ap (λ os. (before ++ to_fixed) ++ os) c.text.ensures
    ∙ append_assoc before to_fixed (keyword_text keyword.List) in
    let third = c.in_ok-push_listings.ensures ∙ ap (λ os. os ++ shown) second ∙ append_assoc before to_list shown in
    c.in_ok-extend_from_slice-3.ensures.items ∙ ap (λ os. os ++ codes "\r\n.\r\n") third
    ∙ append_assoc before to_shown (codes "\r\n.\r\n")
