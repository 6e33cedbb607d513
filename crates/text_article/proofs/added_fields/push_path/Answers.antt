use Rattle.std.proofs.Common.{sym, ◌∙◌, ◌++◌, ap, map, codes, Bor, List, ℕ}
use Rattle.model.specs.Stream.{crlf}
use Rattle.text_article.specs.Stored.{path_of}
use Rattle.text_article.proofs.StoredLaws.{added-none, added-one, regroup-line}
use Rattle.text_article.proofs.added_fields.push_path.Goals as goal

pub returns-then-not-lacks : goal.returns-then-not-lacks
returns-then-not-lacks c =
    added-none (map (λ (f : Bor (List ℕ)). f.now) c.args.fields.now) (codes "Path") (path_of c.args.host.now) c.args.octets.now.items
    (sym c.if-not-lacks.ensures)

pub returns : goal.returns
returns c =
    let old = c.args.octets.now.items in
    let host = c.args.host.now in
    let begun = c.in_ok-extend_from_slice.ensures.items in
    let hosted = c.in_ok-extend_from_slice-2.ensures.items ∙ ap (λ l. l ++ host) begun in
    let whole = c.in_ok-extend_from_slice-3.ensures.items ∙ ap (λ l. l ++ codes "!not-for-mail") hosted in
    let ended = c.in_ok-extend_from_slice-4.ensures.items ∙ ap (λ l. l ++ crlf) whole in
    added-one (map (λ (f : Bor (List ℕ)). f.now) c.args.fields.now) (codes "Path") (path_of host) old _ (sym c.if-not-lacks.ensures)
    (ended ∙ regroup-line old (codes "Path: ") host (codes "!not-for-mail") crlf)
