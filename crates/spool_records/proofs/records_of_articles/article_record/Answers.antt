use Rattle.std.proofs.Common.{ℕ, List, [], ◌∷◌, ◌++◌, length, ap, ◌∙◌, refl}
use Rattle.byteorder.specs.Endian.{little_bytes}
use Rattle.spool_records.proofs.Cuts.{article_joined, named}
use Rattle.spool_records.proofs.records_of_articles.article_record.Goals as goal

pub returns : goal.returns
returns c =
    let groups : List (List ℕ) = c.as_slice-groups.result.now in
    let serial : List ℕ = little_bytes 8 c.args.serial in
    let moment : List ℕ = little_bytes 8 c.seconds.result in
    let size : List ℕ = little_bytes 4 (length c.args.text.now) in
    c.in_ok-extend_from_slice.ensures.items
    ∙ ap (λ (o : List ℕ). o ++ c.args.text.now) (c.in_ok-push_names.ensures
    ∙ ap (λ (o : List ℕ). o ++ named groups) (c.in_ok-push_head.ensures
    ∙ ap (λ (o : List ℕ). o ++ serial ++ moment ++ size ++ length groups ∷ []) c.in_ok-octets.ensures.items))
    ∙ article_joined c.args.serial c.args.envelope.now.moment c.args.text.now c.args.envelope.now.groups
    serial moment size (named groups) (length groups) refl (ap (little_bytes 8) c.seconds.ensures.value) refl
    (ap length c.as_slice-groups.ensures) (ap named c.as_slice-groups.ensures)
