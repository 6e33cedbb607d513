use Rattle.std.proofs.Common.{◌≡◌, ◌+◌, ◌++◌, ◌∷◌, [], ℕ, List, length, map, refl, sym, ap, subst, ◌∙◌, arith, cond}
use Rattle.std.specs.Prelude.{Some, bytes_eq}
use Rattle.std.specs.List.{list_any}
use Rattle.std.proofs.lemmas.List.{map_push}
use Rattle.model.specs.Indexed.{GroupIndex, value_of}
use Rattle.model.specs.Spool.{news_group}
use Rattle.spool_groups.specs.Naming.{heads}
use Rattle.spool_groups.specs.Shown.{shown}
use Rattle.spool_groups.specs.declared.group.Group.{Group}
use Rattle.spool_groups.proofs.Naming.{named_pushed}
use Rattle.spool_index.specs.Ids.{AreUpTo, serial_with}
use Rattle.spool_index.specs.Latest.{AreLatest}
use Rattle.spool_index.specs.View.{IndexView, serial_in}
use Rattle.spool_index.specs.declared.note.Note.{Note}
use Rattle.spool_index.specs.declared.note.Note.TheVariants as note
use Rattle.spool_index.proofs.Growing.{group_indexed, new_serial}
use Rattle.spool_index.proofs.NewIds.{ids_stay, up_to_note}
use Rattle.spool_index.proofs.Index.push_group.Goals as goal

pub invariant_of-self-2 : goal.invariant_of-self-2
invariant_of-self-2 c =
    let view : map shown c.self.inside.groups.items ≡ c.args.self.now.groups = ap (λ (x : IndexView). x.groups) c.self.view_is in
    let made = c.new-group.result in
    let named : (shown made).group.name ≡ c.args.group.name = ap (λ (i : GroupIndex). i.group.name) c.new-group.ensures in
    let name : c.name.result.now ≡ (shown made).group.name = c.name.ensures in
    let groups : c.push.new.self.items ≡ c.self.inside.groups.items ++ made ∷ [] =
    c.in-Ok.ensures.items ∙ ap (λ (gs : List Group). gs ++ made ∷ []) c.in_ok-reserve-3.ensures.items in
    let count : c.len-2.result ≡ length c.self.inside.groups.items =
    omega (arith, c.len-2.ensures, c.reserve-3.new.self.ok, ap (λ (gs : List Group). length gs) c.in_ok-reserve-3.ensures.items) in
    let notes : c.push-2.new.self.items ≡ c.self.inside.notes.items ++ note.Group ∷ [] =
    c.in-Ok-push.ensures.items ∙ ap (λ (ns : List Note). ns ++ note.Group ∷ []) c.in_ok-reserve.ensures.items in (
      named_pushed shown c.self.inside.groups.items c.push.new.self.items made c.self.inside.places c.insert.new.self
          c.name.result.now c.self.invariant.0 groups (sym name)
          (ap (λ (o : List ℕ). list_any (bytes_eq o) (heads (map shown c.self.inside.groups.items))) (name ∙ named)
          ∙ ap (λ (gs : List GroupIndex). list_any (bytes_eq c.args.group.name) (heads gs)) view ∙ c.requires)
          (λ q. c.in_ok-insert.ensures.ok q
          ∙ ap (λ (n : ℕ). cond (bytes_eq q c.name.result.now) (Some n) (value_of c.self.inside.places q)) count),
      subst (AreLatest c.push_latest.new.latest.items)
          (sym notes)
          (c.push_latest.ensures c.self.inside.notes.items
          (subst (λ (ms : List ℕ). AreLatest ms c.self.inside.notes.items) (sym c.in_ok-reserve-2.ensures.items) c.self.invariant.1)),
      subst (λ (ns : List Note). AreUpTo (length ns) c.self.inside.ids) (sym notes)
          (up_to_note c.self.inside.ids c.self.inside.notes.items note.Group c.self.invariant.2),
    )

pub returns-clause-ok : goal.returns-clause-ok
returns-clause-ok c = λ host S lawful may is.
    let serial : c.len.result + 1 ≡ length S + 1 =
    new_serial S c.args.self.now c.self.inside.notes.items c.len.result (ap (λ (x : IndexView). x.notes) c.self.view_is) is
    (omega (arith, c.len.ensures, c.self.inside.notes.ok)) in
    group_indexed host S c.args.self.now _ c.args.group (shown c.new-group.result) note.Group lawful may is
    (c.in-Ok-push.ensures.items ∙ ap (λ (ns : List Note). ns ++ note.Group ∷ []) (c.in_ok-reserve.ensures.items
    ∙ ap (λ (x : IndexView). x.notes) c.self.view_is)) refl
    (ap (map shown) (c.in-Ok.ensures.items ∙ ap (λ (gs : List Group). gs ++ c.new-group.result ∷ []) c.in_ok-reserve-3.ensures.items)
    ∙ map_push shown c.self.inside.groups.items c.new-group.result
    ∙ ap (λ (gs : List GroupIndex). gs ++ shown c.new-group.result ∷ []) (ap (λ (x : IndexView). x.groups) c.self.view_is))
    (c.new-group.ensures ∙ ap (λ (n : ℕ). record {
      group = news_group n c.args.group;
      filed = [];
      ends = [];
      low = 1;
      expired = [];
      last = n;
    }) serial)
    (λ wanted. ap (λ (ns : List Note). serial_with c.self.inside.ids ns wanted)
    (c.in-Ok-push.ensures.items ∙ ap (λ (ns : List Note). ns ++ note.Group ∷ []) c.in_ok-reserve.ensures.items)
    ∙ ids_stay c.self.inside.ids c.self.inside.notes.items note.Group c.self.invariant.2 wanted
    ∙ ap (λ (x : IndexView). serial_in x wanted) c.self.view_is)
