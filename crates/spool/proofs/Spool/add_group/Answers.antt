use Rattle.std.proofs.Common.{◌≡◌, Some, inl, inr, true, false, refl, ◌∙◌, sym, ap, subst}
use Rattle.model.specs.Room.{is_full}
use Rattle.model.specs.Spool.{group_named, is_here}
use Rattle.model.specs.declared.change.Change.{Change}
use Rattle.model.specs.declared.change.Change.TheVariants.{Group}
use Rattle.model.specs.declared.change.NewGroup.{NewGroup}
use Rattle.model.specs.Lawful.{MayMake}
use Rattle.model.proofs.LawfulLaws.{none_by_test}
use Rattle.text_names.specs.Requests.{group_of}
use Rattle.spool.specs.View.{Adds}
use Rattle.spool.proofs.Full.{group_refused, last_serial}
use Rattle.spool.proofs.Spool.add_group.Goals as goal

pub returns-then-is_here : goal.returns-then-is_here
returns-then-is_here c =
    let s = c.args.self.now in
    let name = c.args.group.now.name in
    let its : Change = Group (group_of c.args.group.now) in
    let here : is_here s.changes name ≡ true =
    ap (is_here s.changes) (sym c.as_slice.ensures.value) ∙ sym c.is_here.ensures ∙ c.if-is_here.true in
    (inr (group_refused s name its true (is_full s.blocks s.inodes s.changes (Some its)) here refl), refl)

pub returns-then-is_full_for_group : goal.returns-then-is_full_for_group
returns-then-is_full_for_group c =
    let s = c.args.self.now in
    let name = c.args.group.now.name in
    let asked : NewGroup = group_of c.args.group.now in
    let here : is_here s.changes name ≡ false =
    ap (is_here s.changes) (sym c.as_slice.ensures.value) ∙ sym c.is_here.ensures ∙ c.if-is_here.false in
    let full : is_full s.blocks s.inodes s.changes (Some (Group asked)) ≡ true =
    sym (c.is_full_for_group.ensures asked) ∙ c.if-is_full_for_group.true in
    (inr (group_refused s name (Group asked) false true here full), refl)

pub returns-in_default : goal.returns-in_default
returns-in_default c =
    let s = c.args.self.now in
    let name = c.args.group.now.name in
    let asked : NewGroup = group_of c.args.group.now in
    let here : is_here s.changes name ≡ false =
    ap (is_here s.changes) (sym c.as_slice.ensures.value) ∙ sym c.is_here.ensures ∙ c.if-is_here.false in
    let room : is_full s.blocks s.inodes s.changes (Some (Group asked)) ≡ false =
    sym (c.is_full_for_group.ensures asked) ∙ c.if-is_full_for_group.false in
    (inl (refl, group_refused s name (Group asked) false false here room), refl)

pub push-requires-clause-may : goal.push-requires-clause-may
push-requires-clause-may c =
    let s = c.args.self.now in
    let name = c.as_slice.ensures in
    let description = c.as_slice-description.ensures in
    let here : is_here s.changes c.args.group.now.name ≡ false =
    ap (is_here s.changes) (sym name.value) ∙ sym c.is_here.ensures ∙ c.if-is_here.false in
    subst (MayMake s.changes) (sym c.in-Ok.ensures) (record {
      is_name = name.is;
      new = none_by_test (group_named s.changes c.args.group.now.name) here;
      short = description.short;
      printable = description.printable;
      in_time = c.seconds-seconds.ensures.limit;
    })

pub push-requires-clause-room : goal.push-requires-clause-room
push-requires-clause-room c = sym (c.is_full_for_group.ensures c.in-Ok.asked) ∙ c.if-is_full_for_group.false

pub returns-in-Err : goal.returns-in-Err
returns-in-Err c =
    let s = c.args.self.now in
    let name = c.args.group.now.name in
    let asked : NewGroup = group_of c.args.group.now in
    let here : is_here s.changes name ≡ false =
    ap (is_here s.changes) (sym c.as_slice.ensures.value) ∙ sym c.is_here.ensures ∙ c.if-is_here.false in
    let room : is_full s.blocks s.inodes s.changes (Some (Group asked)) ≡ false =
    sym (c.is_full_for_group.ensures asked) ∙ c.if-is_full_for_group.false in
    (inl (refl, group_refused s name (Group asked) false false here room), c.in-Err.ensures.err)

pub returns-in-Ok-push : goal.returns-in-Ok-push
returns-in-Ok-push c =
    let s = c.args.self.now in
    let n = c.push.new.self in
    let name = c.args.group.now.name in
    let asked : NewGroup = group_of c.args.group.now in
    let adds : Adds s n (Group asked) = subst (λ (g : NewGroup). Adds s n (Group g)) c.in-Ok.ensures c.in-Ok-push.ensures.ok in
    let here : is_here s.changes name ≡ false =
    ap (is_here s.changes) (sym c.as_slice.ensures.value) ∙ sym c.is_here.ensures ∙ c.if-is_here.false in
    let room : is_full s.blocks s.inodes s.changes (Some (Group asked)) ≡ false =
    sym (c.is_full_for_group.ensures asked) ∙ c.if-is_full_for_group.false in (
      group_refused s name (Group asked) false false here room,
      (last_serial s n (Group asked) c.len.result adds c.len.ensures, adds),
    )
