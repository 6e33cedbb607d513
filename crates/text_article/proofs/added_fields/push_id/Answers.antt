use Rattle.std.proofs.Common.{◌≡◌, sym, ◌∙◌, ◌++◌, ap, map, codes, Bor, List, ℕ}
use Rattle.std.specs.Prelude.{decimal}
use Rattle.model.specs.Stream.{crlf}
use Rattle.model.specs.Article.{made_id}
use Rattle.text_article.proofs.StoredLaws.{added-none, added-one, regroup-field}
use Rattle.text_article.proofs.added_fields.push_id.Goals as goal

pub returns-then-not-lacks : goal.returns-then-not-lacks
returns-then-not-lacks c =
    added-none (map (λ (f : Bor (List ℕ)). f.now) c.args.fields.now) (codes "Message-ID") (made_id c.args.host.now c.args.serial)
    c.args.octets.now.items (sym c.if-not-lacks.ensures)

pub returns : goal.returns
returns c =
    let old = c.args.octets.now.items in
    let host = c.args.host.now in
    let number : c.as_bytes.result.now ≡ decimal c.args.serial = c.as_bytes.ensures.value ∙ c.format.ensures.text in
    let begun = c.in_ok-extend_from_slice.ensures.items in
    let made = c.in_ok-push_made_id.ensures
    ∙ ap (λ (n : List ℕ). c.extend_from_slice.new.self.items ++ (codes "<" ++ n ++ codes "@" ++ host ++ codes ">")) number
    ∙ ap (λ l. l ++ made_id host c.args.serial) begun in
    let ended = c.in_ok-extend_from_slice-2.ensures.items ∙ ap (λ l. l ++ crlf) made in
    added-one (map (λ (f : Bor (List ℕ)). f.now) c.args.fields.now) (codes "Message-ID") (made_id host c.args.serial) old _
    (sym c.if-not-lacks.ensures) (ended ∙ regroup-field old (codes "Message-ID: ") (made_id host c.args.serial) crlf)
