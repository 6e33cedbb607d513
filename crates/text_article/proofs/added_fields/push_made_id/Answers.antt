use Rattle.std.proofs.Common.{◌∙◌, ◌++◌, ap, codes}
use Rattle.text_article.proofs.StoredLaws.{regroup-five}
use Rattle.text_article.proofs.added_fields.push_made_id.Goals as goal

pub returns : goal.returns
returns c =
    let begun = c.in_ok-extend_from_slice.ensures.items in
    let numbered = c.in_ok-extend_from_slice-2.ensures.items ∙ ap (λ l. l ++ c.args.number.now) begun in
    let parted = c.in_ok-extend_from_slice-3.ensures.items ∙ ap (λ l. l ++ codes "@") numbered in
    let hosted = c.in_ok-extend_from_slice-4.ensures.items ∙ ap (λ l. l ++ c.args.host.now) parted in
    c.in_ok-extend_from_slice-5.ensures.items ∙ ap (λ l. l ++ codes ">") hosted
    ∙ regroup-five c.args.octets.now.items (codes "<") c.args.number.now (codes "@") c.args.host.now (codes ">")
