use Rattle.std.proofs.Common.{◌∙◌, ◌∷◌, ◌++◌, ap, append_assoc, codes, drop}
use Rattle.std.specs.Prelude.{flat_map}
use Rattle.model.specs.Commands.{keyword_text, keywords}
use Rattle.model.specs.Replies.{help_follows}
use Rattle.model.specs.Stream.{Octets, line}
use Rattle.model.specs.declared.command.Keyword.TheVariants as keyword
use Rattle.session_replies.proofs.blocks.push_help.Goals as goal

pub returns : goal.returns
returns c =
    let before : Octets = c.args.reply.now.items in
    let first_text : Octets = keyword_text keyword.Article in
    let later : Octets = flat_map (λ k. 32 ∷ keyword_text k) (drop 1 keywords) in
    let to_first : Octets = line help_follows ++ first_text in
    let to_later : Octets = to_first ++ later in
    let first = c.in_ok-extend_from_slice.ensures.items ∙ ap (λ os. os ++ c.text.result.now) c.in_ok-push_heading.ensures
    ∙ ap (λ os. (before ++ line help_follows) ++ os) c.text.ensures
    ∙ append_assoc before (line help_follows) first_text in
    let second = c.in_ok-push_keywords.ensures ∙ ap (λ os. os ++ later) first ∙ append_assoc before to_first later in
    c.in_ok-extend_from_slice-2.ensures.items ∙ ap (λ os. os ++ codes "\r\n.\r\n") second
    ∙ append_assoc before to_later (codes "\r\n.\r\n")
