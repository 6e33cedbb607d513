use Rattle.std.proofs.Common.{sym, ◌∙◌, ◌++◌, ap, map, codes, Bor, List, ℕ}
use Rattle.model.specs.Stream.{crlf}
use Rattle.model.specs.Calendar.{date_header}
use Rattle.text_article.proofs.StoredLaws.{added-none, added-one, regroup-field}
use Rattle.text_article.proofs.added_fields.push_date.Goals as goal

pub returns-then-not-lacks : goal.returns-then-not-lacks
returns-then-not-lacks c =
    added-none (map (λ (f : Bor (List ℕ)). f.now) c.args.fields.now) (codes "Date") (date_header c.args.moment) c.args.octets.now.items
    (sym c.if-not-lacks.ensures)

pub returns : goal.returns
returns c =
    let old = c.args.octets.now.items in
    let date = date_header c.args.moment in
    let begun = c.in_ok-extend_from_slice.ensures.items in
    let whole = c.in_ok-push_date_header.ensures ∙ ap (λ l. l ++ date) begun in
    let ended = c.in_ok-extend_from_slice-2.ensures.items ∙ ap (λ l. l ++ crlf) whole in
    added-one (map (λ (f : Bor (List ℕ)). f.now) c.args.fields.now) (codes "Date") date old _ (sym c.if-not-lacks.ensures)
    (ended ∙ regroup-field old (codes "Date: ") date crlf)
