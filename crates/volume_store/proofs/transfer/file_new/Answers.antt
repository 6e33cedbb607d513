use Rattle.std.proofs.Common.{◌≡◌, ◌+◌, ◌<◌, length, refl, sym, ◌∙◌, ap, subst, true}
use Rattle.std.specs.Prelude.{None, filter}
use Rattle.std.proofs.lemmas.Bool.{eqb-true, eqb-false}
use Rattle.std.proofs.lemmas.List.{nil_from_length}
use Rattle.model.specs.Answer.{groups_here}
use Rattle.model.specs.Spool.{filing_of, is_here}
use Rattle.model.specs.declared.change.Change.{Change}
use Rattle.model.specs.declared.change.Change.TheVariants.{Article}
use Rattle.spool.specs.Refusals.{article_refusal, is_full_for}
use Rattle.spool.specs.View.{Adds}
use Rattle.volume_store.proofs.Transfers.{has_room, is_accepted, its_change, lacks_room, nowhere, own_id-is, positive}
use Rattle.volume_store.proofs.transfer.file_new.Goals as goal

pub returns-then-is_empty-clause-ok : goal.returns-then-is_empty-clause-ok
returns-then-is_empty-clause-ok c =
    let S = c.args.spool.now.changes in
    let text = c.args.article.now in
    let groups = c.in_ok-groups.groups in
    let are : groups.items ≡ groups_here S text =
    c.in_ok-groups.ensures ∙ ap (filter (is_here S)) (c.deref.ensures.value ∙ c.in_ok-names.ensures) in
    let none : length groups.items ≡ 0 = sym groups.ok.0 ∙ eqb-true groups.len 0 (sym c.if-is_empty.ensures) in (
      c.requires.offered,
      nowhere S text _ c.requires.carried (own_id-is text c.requires.carried) c.requires.new
          (sym are ∙ nil_from_length groups.items none),
      refl,
    )

pub returns-in-Ok-clause-ok : goal.returns-in-Ok-clause-ok
returns-in-Ok-clause-ok c =
    let s = c.args.spool.now in
    let text = c.args.article.now in
    let groups = c.in_ok-groups.groups in
    let are : groups.items ≡ groups_here s.changes text =
    c.in_ok-groups.ensures ∙ ap (filter (is_here s.changes)) (c.deref.ensures.value ∙ c.in_ok-names.ensures) in
    let some : 0 < length groups.items =
    positive (length groups.items) (λ e. eqb-false groups.len 0 (sym c.if-is_empty.ensures) (groups.ok.0 ∙ e)) in
    let same : Article (filing_of text c.new.result c.args.moment) ≡ Article (filing_of text groups.items c.args.moment) =
    λ i. Article (filing_of text (c.new.ensures i) c.args.moment) in
    let done =
    subst (λ (x : Change). (article_refusal s x ≡ None) × ((c.in-Ok.serial ≡ length s.changes + 1) × Adds s c.add_article.new.self x))
    same c.in-Ok.ensures in
    let filed =
    is_accepted s.changes text _ groups.items c.requires.carried (own_id-is text c.requires.carried) c.requires.new are some in (
      c.requires.offered,
      done.1.0,
      (
        Article (filing_of text groups.items c.args.moment),
        its_change s c.args.moment text groups.items filed,
        has_room (is_full_for s (Article (filing_of text groups.items c.args.moment))) done.0,
        done.1.1,
      ),
    )

pub returns-in-Err-Full-clause-ok : goal.returns-in-Err-Full-clause-ok
returns-in-Err-Full-clause-ok c =
    let s = c.args.spool.now in
    let text = c.args.article.now in
    let groups = c.in_ok-groups.groups in
    let are : groups.items ≡ groups_here s.changes text =
    c.in_ok-groups.ensures ∙ ap (filter (is_here s.changes)) (c.deref.ensures.value ∙ c.in_ok-names.ensures) in
    let some : 0 < length groups.items =
    positive (length groups.items) (λ e. eqb-false groups.len 0 (sym c.if-is_empty.ensures) (groups.ok.0 ∙ e)) in
    let same : Article (filing_of text c.new.result c.args.moment) ≡ Article (filing_of text groups.items c.args.moment) =
    λ i. Article (filing_of text (c.new.ensures i) c.args.moment) in
    let full =
    lacks_room (is_full_for s (Article (filing_of text c.new.result c.args.moment))) c.in-Err-Full.field-0
    c.in-Err-Full.field-0-is c.in-Err-Full.ensures.0 in
    let filed = is_accepted s.changes text _ groups.items c.requires.carried
    (own_id-is text c.requires.carried) c.requires.new are some in (
      c.requires.offered,
      (
        Article (filing_of text groups.items c.args.moment),
        its_change s c.args.moment text groups.items filed,
        subst (λ (x : Change). is_full_for s x ≡ true) same full,
      ),
      c.in-Err-Full.ensures.1,
    )
