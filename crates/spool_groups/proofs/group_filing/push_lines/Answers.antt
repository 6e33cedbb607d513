use Rattle.std.proofs.Common.{◌≡◌, ◌<◌, ◌+◌, ◌-◌, ◌*◌, ◌^◌, ◌∙◌, ℕ, List, [], sym, ap, subst, arith, length, map, rules}
use Rattle.std.specs.Prelude.{slice_index, slice_index_or}
use Rattle.std.proofs.lemmas.List.{get_or_default, map-id}
use Rattle.spool_groups.specs.Filing.{EndBelow, filed_once}
use Rattle.spool_groups.specs.Naming.{AreNamed, heads}
use Rattle.spool_groups.specs.Shown.{shown}
use Rattle.spool_groups.proofs.Steps.{ends_less, ends_more, filed_next, heads_by, room_less, same_room}
use Rattle.spool_groups.proofs.group_filing.push_lines.Goals as goal

pub loop-i-init : goal.loop-i-init
loop-i-init c = record {
  filed = sym (map-id (map shown c.args.groups.now));
  room = λ k low. room_less c.args.places.now c.args.groups.now (slice_index_or c.args.filed.now k []) (length c.args.filed.now)
      (length c.args.filed.now - 0) (omega arith) (c.requires.room k low);
  ends = c.requires.fits;
}

pub push_one-requires-clause-named : goal.push_one-requires-clause-named
push_one-requires-clause-named c =
    subst (AreNamed c.args.places.now)
    (sym (ap heads c.loop-i.invariant.filed
    ∙ heads_by c.args.serial c.args.filed.now c.args.sizes.now c.loop-i.i (map shown c.args.groups.now))) c.requires.named

pub push_one-requires-clause-room : goal.push_one-requires-clause-room
push_one-requires-clause-room c =
    let low : c.loop-i.i < length c.args.filed.now = omega arith in
    let name : c.as_slice.result.now ≡ slice_index_or c.args.filed.now c.loop-i.i [] = c.as_slice.ensures ∙ c.index-filed-i.is
    ∙ get_or_default c.args.filed.now c.loop-i.i c.index-filed-i.result [] low in
    same_room c.args.places.now c.loop-i.groups c.as_slice.result.now (slice_index_or c.args.filed.now c.loop-i.i []) 1 name
    (room_less c.args.places.now c.loop-i.groups (slice_index_or c.args.filed.now c.loop-i.i []) (length c.args.filed.now - c.loop-i.i) 1
    (omega arith) (c.loop-i.invariant.room c.loop-i.i low))

pub loop-i-preserved : goal.loop-i-preserved
loop-i-preserved c =
    let low : c.loop-i.i < length c.args.filed.now = omega arith in
    let name : c.as_slice.result.now ≡ slice_index_or c.args.filed.now c.loop-i.i [] = c.as_slice.ensures ∙ c.index-filed-i.is
    ∙ get_or_default c.args.filed.now c.loop-i.i c.index-filed-i.result [] low in
    let size : ℕ = slice_index c.args.sizes.now c.loop-i.i in
    let small : size < 2 ^ 32 = search rules in
    record {
      filed =
          filed_next c.args.serial c.args.filed.now c.args.sizes.now c.loop-i.i (map shown c.loop-i.groups) (map shown c.args.groups.now)
          (map shown c.push_one.new.groups) c.loop-i.invariant.filed
          (c.push_one.ensures.filed ∙ ap (λ (n : List ℕ). map (filed_once c.args.serial n size) (map shown c.loop-i.groups)) name);
      room = λ k within. c.push_one.ensures.room (slice_index_or c.args.filed.now k []) (length c.args.filed.now - (c.loop-i.i + 1))
          (room_less c.args.places.now c.loop-i.groups (slice_index_or c.args.filed.now k []) (length c.args.filed.now - c.loop-i.i)
          (length c.args.filed.now - (c.loop-i.i + 1) + 1) (omega arith) (c.loop-i.invariant.room k within));
      ends =
          subst (EndBelow ((c.loop-i.i + 1 + 1) * 2 ^ 32)) (sym c.push_one.ensures.filed)
          (ends_less ((c.loop-i.i + 1) * 2 ^ 32 + 2 ^ 32) ((c.loop-i.i + 1 + 1) * 2 ^ 32)
          (map (filed_once c.args.serial c.as_slice.result.now size) (map shown c.loop-i.groups)) (omega arith)
          (ends_more ((c.loop-i.i + 1) * 2 ^ 32) (2 ^ 32) c.args.serial c.as_slice.result.now size
          (map shown c.loop-i.groups) c.loop-i.invariant.ends small));
    }

pub returns : goal.returns
returns c = search rules
