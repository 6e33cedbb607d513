use Rattle.std.proofs.Common.{◌∙◌, ◌++◌, ap, map, codes, Bor, List, ℕ}
use Rattle.model.specs.Calendar.{date_header}
use Rattle.model.specs.Article.{made_id}
use Rattle.text_article.specs.Stored.{added_to, path_of}
use Rattle.text_article.proofs.StoredLaws.{regroup-field}
use Rattle.text_article.proofs.added_fields.push_front.Goals as goal

pub returns : goal.returns
returns c =
    let all = map (λ (f : Bor (List ℕ)). f.now) c.args.fields.now in
    let path = added_to all (codes "Path") (path_of c.args.host.now) in
    let date = added_to all (codes "Date") (date_header c.args.moment) in
    let id = added_to all (codes "Message-ID") (made_id c.args.host.now c.args.serial) in
    c.in_ok-push_id.ensures ∙ ap (λ l. l ++ id) (c.in_ok-push_date.ensures ∙ ap (λ l. l ++ date) c.in_ok-push_path.ensures)
    ∙ regroup-field c.args.octets.now.items path date id
