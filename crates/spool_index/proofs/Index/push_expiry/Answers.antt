use Rattle.std.proofs.Common.{◌≡◌, ◌+◌, ◌++◌, ◌∷◌, [], ℕ, List, length, map, sym, ap, subst, ◌∙◌, arith}
use Rattle.model.specs.Stream.{Octets}
use Rattle.spool_groups.specs.Filing.{expired_once}
use Rattle.spool_groups.specs.Naming.{AreNamed, heads}
use Rattle.spool_groups.specs.Shown.{shown}
use Rattle.spool_groups.specs.declared.group.Group.{Group}
use Rattle.spool_groups.proofs.Steps.{heads_expired, kept_size, written}
use Rattle.spool_index.specs.Ids.{AreUpTo, serial_with}
use Rattle.spool_index.specs.Latest.{AreLatest}
use Rattle.spool_index.specs.View.{IndexView, serial_in}
use Rattle.spool_index.specs.declared.note.Note.{Note}
use Rattle.spool_index.specs.declared.note.Note.TheVariants as note
use Rattle.spool_index.proofs.Growing.{expiry_indexed, new_serial}
use Rattle.spool_index.proofs.NewIds.{ids_stay, up_to_note}
use Rattle.spool_index.proofs.Index.push_expiry.Goals as goal

pub invariant_of-self-2 : goal.invariant_of-self-2
invariant_of-self-2 c =
    let items : List Group = c.self.inside.groups.items in
    let serial : ℕ = c.len.result + 1 in
    let more : map shown c.expire_one.new.groups ≡ map (expired_once serial c.args.name.now c.args.number) (map shown items) =
    c.in_ok-expire_one.ensures.ok ∙ ap (λ (gs : List Group). map (expired_once serial c.args.name.now c.args.number) (map shown gs))
    c.deref_mut.ensures.value in
    let size : length c.expire_one.new.groups ≡ c.self.inside.groups.len =
    kept_size items c.expire_one.new.groups (expired_once serial c.args.name.now c.args.number) more
    ∙ omega (arith, c.self.inside.groups.ok) in
    let back = written items c.expire_one.new.groups c.self.inside.groups.len size in (
      subst (AreNamed c.self.inside.places)
          (sym (ap (λ (gs : List Group). heads (map shown gs)) back ∙ ap heads more
          ∙ heads_expired serial c.args.name.now c.args.number (map shown items))) c.self.invariant.0,
      subst (AreLatest c.push_latest.new.latest.items)
          (sym (c.in-Ok.ensures.items ∙ ap (λ (ns : List Note). ns ++ note.Expiry c.new-group.result c.args.number ∷ [])
          c.in_ok-reserve.ensures.items))
          (c.push_latest.ensures c.self.inside.notes.items
          (subst (λ (ms : List ℕ). AreLatest ms c.self.inside.notes.items) (sym c.in_ok-reserve-2.ensures.items) c.self.invariant.1)),
      subst (λ (ns : List Note). AreUpTo (length ns) c.self.inside.ids)
          (sym (c.in-Ok.ensures.items ∙ ap (λ (ns : List Note). ns ++ note.Expiry c.new-group.result c.args.number ∷ [])
          c.in_ok-reserve.ensures.items))
          (up_to_note c.self.inside.ids c.self.inside.notes.items (note.Expiry c.new-group.result c.args.number) c.self.invariant.2),
    )

pub returns-clause-ok : goal.returns-clause-ok
returns-clause-ok c = λ host S may is.
    let items : List Group = c.self.inside.groups.items in
    let serial : ℕ = c.len.result + 1 in
    let more : map shown c.expire_one.new.groups ≡ map (expired_once serial c.args.name.now c.args.number) (map shown items) =
    c.in_ok-expire_one.ensures.ok ∙ ap (λ (gs : List Group). map (expired_once serial c.args.name.now c.args.number) (map shown gs))
    c.deref_mut.ensures.value in
    let size : length c.expire_one.new.groups ≡ c.self.inside.groups.len =
    kept_size items c.expire_one.new.groups (expired_once serial c.args.name.now c.args.number) more
    ∙ omega (arith, c.self.inside.groups.ok) in
    let back = written items c.expire_one.new.groups c.self.inside.groups.len size in
    let next : serial ≡ length S + 1 =
    new_serial S c.args.self.now c.self.inside.notes.items c.len.result (ap (λ (x : IndexView). x.notes) c.self.view_is) is
    (omega (arith, c.len.ensures, c.self.inside.notes.ok)) in
    expiry_indexed host S c.args.self.now _ (record { group = c.args.name.now; number = c.args.number })
    (note.Expiry c.new-group.result c.args.number) may is
    (c.in-Ok.ensures.items ∙ ap (λ (ns : List Note). ns ++ note.Expiry c.new-group.result c.args.number ∷ []) (c.in_ok-reserve.ensures.items
    ∙ ap (λ (x : IndexView). x.notes) c.self.view_is))
    (ap (λ (g : Octets). note.Expiry g c.args.number) (c.new-group.ensures ∙ c.in_ok-from_slice.ensures.items))
    (ap (map shown) back ∙ more ∙ ap (λ (n : ℕ). map (expired_once n c.args.name.now c.args.number) (map shown items)) next
    ∙ ap (λ (x : IndexView). map (expired_once (length S + 1) c.args.name.now c.args.number) x.groups) c.self.view_is)
    (λ wanted. ap (λ (ns : List Note). serial_with c.self.inside.ids ns wanted)
    (c.in-Ok.ensures.items ∙ ap (λ (ns : List Note). ns ++ note.Expiry c.new-group.result c.args.number ∷ []) c.in_ok-reserve.ensures.items)
    ∙ ids_stay c.self.inside.ids c.self.inside.notes.items (note.Expiry c.new-group.result c.args.number) c.self.invariant.2 wanted
    ∙ ap (λ (x : IndexView). serial_in x wanted) c.self.view_is)
