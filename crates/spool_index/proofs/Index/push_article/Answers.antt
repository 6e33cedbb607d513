use Rattle.std.proofs.Common.{◌≡◌, ◌+◌, ◌++◌, ◌∷◌, [], ℕ, List, length, map, sym, ap, subst, ◌∙◌, arith, cond}
use Rattle.std.specs.Prelude.{Some, bytes_eq, option_map}
use Rattle.model.specs.Spool.{NewsArticle, by_id}
use Rattle.spool_groups.specs.Filing.{filed_by}
use Rattle.spool_groups.specs.Naming.{AreNamed, heads}
use Rattle.spool_groups.specs.Shown.{shown}
use Rattle.spool_groups.proofs.Steps.{filed_twice, heads_by}
use Rattle.spool_index.specs.Ids.{AreUpTo, serial_with}
use Rattle.spool_index.specs.Latest.{AreLatest}
use Rattle.spool_index.specs.View.{IndexView, serial_in}
use Rattle.spool_index.specs.declared.note.Note.{Note}
use Rattle.spool_index.specs.declared.note.Note.TheVariants as note
use Rattle.spool_index.proofs.Growing.{article_indexed, new_serial}
use Rattle.spool_index.proofs.NewIds.{added_up_to, ids_added}
use Rattle.spool_index.proofs.Index.push_article.Goals as goal

pub invariant_of-self-2 : goal.invariant_of-self-2
invariant_of-self-2 c =
    let more = filed_twice c.self.inside.groups.items c.deref_mut.result.now c.reserve_lines.new.groups c.deref_mut-2.result.now
    c.push_lines.new.groups c.self.inside.groups.len (c.len.result + 1) c.as_slice-2.result.now c.args.envelope.groups c.args.sizes.now
    (omega (arith, c.self.inside.groups.ok)) c.deref_mut.ensures.value c.in_ok-reserve_lines.ensures.same c.deref_mut-2.ensures.value
    c.push_lines.ensures c.as_slice-2.ensures in (
      subst (AreNamed c.self.inside.places)
          (sym (ap heads more ∙ heads_by (c.len.result + 1) c.args.envelope.groups c.args.sizes.now (length c.args.envelope.groups)
          (map shown c.self.inside.groups.items))) c.self.invariant.0,
      subst (AreLatest c.push_latest.new.latest.items)
          (sym (c.in-Ok.ensures.items
          ∙ ap (λ (ns : List Note). ns
          ++ note.Article c.new-own_id.result c.args.lengths c.args.envelope.groups c.args.envelope.moment ∷ [])
          c.in_ok-reserve.ensures.items))
          (c.push_latest.ensures c.self.inside.notes.items
          (subst (λ (ms : List ℕ). AreLatest ms c.self.inside.notes.items) (sym c.in_ok-reserve-2.ensures.items) c.self.invariant.1)),
      subst (λ (ns : List Note). AreUpTo (length ns) c.insert.new.self)
          (sym (c.in-Ok.ensures.items
          ∙ ap (λ (ns : List Note). ns
          ++ note.Article c.new-own_id.result c.args.lengths c.args.envelope.groups c.args.envelope.moment ∷ [])
          c.in_ok-reserve.ensures.items))
          (added_up_to c.self.inside.ids c.insert.new.self c.self.inside.notes.items
          (note.Article c.new-own_id.result c.args.lengths c.args.envelope.groups c.args.envelope.moment) c.args.id.now (c.len.result + 1)
          c.self.invariant.2 (omega (arith, c.len.ensures, c.self.inside.notes.ok))
          (ap Some (c.new-own_id.ensures ∙ c.in_ok-from_slice.ensures.items)) c.in_ok-insert.ensures.ok),
    )

pub returns-clause-ok : goal.returns-clause-ok
returns-clause-ok c = λ host S text may key size sized is.
    let more = filed_twice c.self.inside.groups.items c.deref_mut.result.now c.reserve_lines.new.groups c.deref_mut-2.result.now
    c.push_lines.new.groups c.self.inside.groups.len (c.len.result + 1) c.as_slice-2.result.now c.args.envelope.groups c.args.sizes.now
    (omega (arith, c.self.inside.groups.ok)) c.deref_mut.ensures.value c.in_ok-reserve_lines.ensures.same c.deref_mut-2.ensures.value
    c.push_lines.ensures c.as_slice-2.ensures in
    let next : c.len.result + 1 ≡ length S + 1 =
    new_serial S c.args.self.now c.self.inside.notes.items c.len.result (ap (λ (x : IndexView). x.notes) c.self.view_is) is
    (omega (arith, c.len.ensures, c.self.inside.notes.ok)) in
    article_indexed host S c.args.self.now _ (record { text = text; envelope = c.args.envelope }) c.args.id.now
    c.args.sizes.now
    (note.Article c.new-own_id.result c.args.lengths c.args.envelope.groups c.args.envelope.moment) (c.len.result + 1) may is
    (c.in-Ok.ensures.items ∙ ap (λ (ns : List Note). ns
    ++ note.Article c.new-own_id.result c.args.lengths c.args.envelope.groups c.args.envelope.moment ∷ [])
    (c.in_ok-reserve.ensures.items ∙ ap (λ (x : IndexView). x.notes) c.self.view_is))
    (λ i. note.Article ((c.new-own_id.ensures ∙ c.in_ok-from_slice.ensures.items ∙ key) i)
    (size i) c.args.envelope.groups c.args.envelope.moment)
    sized next
    (more ∙ ap (λ (x : IndexView). map (filed_by (c.len.result + 1) c.args.envelope.groups c.args.sizes.now
    (length c.args.envelope.groups)) x.groups)
    c.self.view_is)
    key
    (λ q. ap (λ (ns : List Note). serial_with c.insert.new.self ns q) (c.in-Ok.ensures.items ∙ ap (λ (ns : List Note). ns
    ++ note.Article c.new-own_id.result c.args.lengths c.args.envelope.groups c.args.envelope.moment ∷ []) c.in_ok-reserve.ensures.items)
    ∙ ids_added c.self.inside.ids c.insert.new.self c.self.inside.notes.items
    (note.Article c.new-own_id.result c.args.lengths c.args.envelope.groups c.args.envelope.moment) c.args.id.now (c.len.result + 1)
    c.self.invariant.2 (omega (arith, c.len.ensures, c.self.inside.notes.ok))
    (ap Some (c.new-own_id.ensures ∙ c.in_ok-from_slice.ensures.items))
    (ap (λ (x : IndexView). serial_in x c.args.id.now) c.self.view_is ∙ is.ids_are c.args.id.now
    ∙ ap (option_map (λ (a : NewsArticle). a.serial)) (ap (by_id S) key ∙ may.new))
    c.in_ok-insert.ensures.ok q
    ∙ ap (λ (x : IndexView). cond (bytes_eq q c.args.id.now) (Some (c.len.result + 1)) (serial_in x q)) c.self.view_is)
