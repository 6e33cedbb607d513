use Rattle.std.proofs.Common.{◌≡◌, ◌∙◌, ap, sym, refl, ◌+◌, ◌-◌, ◌<◌, false, length, take, drop, arith, rules, tests}
use Rattle.std.specs.Prelude.{◌||◌, ◌&&◌, ◌==◌, get_or}
use Rattle.std.proofs.lemmas.Bool.{ne_eqb}
use Rattle.std.proofs.lemmas.List.{take_rest}
use Rattle.std.proofs.lemmas.Iterator.{YieldsList-from_slice}
use Rattle.std.proofs.lemmas.Iterator.Search.{all_from_yields_List}
use Rattle.std.specs.List.{list_all}
use Rattle.text_names.proofs.TakesLaws.{
  tail_takes,
  run_takes,
  run-here,
  tail-one,
  tail-one_on,
  tail-end,
  takes-end,
  star-further,
  name-ends,
}
use Rattle.text_names.proofs.patterns.takes_behind_run.Goals as goal
use Rattle.text_names.proofs.patterns.takes_behind_run.Goals.{else-at-items-via-then-at-items+else-items-at-eq42}
use Rattle.text_names.proofs.patterns.takes_behind_run.Goals.{
  else-at-items-via-else-at-items,
  else-at-items-2-via-then-at-items-2+else-fits,
}
use Rattle.text_names.proofs.patterns.takes_behind_run.Goals.{else-at-items-2-via-else-at-items-2}

pub loop-from-init : goal.loop-from-init
loop-from-init c =
    let items = c.args.items.now in
    let name = c.args.name.now in
    record {
      items = omega arith;
      name = omega arith;
      behind = omega arith;
      tried = refl;
      same = run-here items name 0 0;
      later = λ k above taken. let same : k + 0 ≡ k = omega arith in ap (tail_takes items name 0) same ∙ taken;
    }

pub loop-from-preserved-then-items-at-eq42 : goal.loop-from-preserved-then-items-at-eq42
loop-from-preserved-then-items-at-eq42 c =
    let items = c.args.items.now in
    let name = c.args.name.now in
    let l = c.loop-from in
    let inv = c.loop-from.invariant in
    record {
      items = omega arith;
      name = inv.name;
      behind = omega arith;
      tried = omega arith;
      same = inv.same ∙ star-further items name l.behind l.at l.tried l.from inv.behind inv.tried inv.later c.if-at-items.true
          c.if-items-at-eq42.true;
      later = λ k above taken. let same : k + (l.at + 1 - (l.at + 1)) ≡ k = omega arith in ap (tail_takes items name (l.at + 1)) same
          ∙ taken;
    }

pub loop-from-preserved-then-fits : goal.loop-from-preserved-then-fits
loop-from-preserved-then-fits c =
    let items = c.args.items.now in
    let name = c.args.name.now in
    let l = c.loop-from in
    let inv = c.loop-from.invariant in
    let within : l.at < length items = c.if-at-items-2.true in
    let one : (get_or items l.at 0 == 42) ≡ false =
    elim c.else-at-items.branch [
      | else-at-items-via-then-at-items+else-items-at-eq42 w ↦ ne_eqb (get_or items l.at 0) 42 w.if-items-at-eq42.false
      | else-at-items-via-else-at-items w ↦ absurd (omega (arith, w.if-at-items.false))
    ] in
    record {
      items = omega arith;
      name = omega arith;
      behind = omega (arith, inv.behind);
      tried = omega (arith, inv.behind, inv.tried);
      same = inv.same
          ∙ ap (λ b. b || run_takes items name l.behind (l.tried + 1))
          (tail-one items name l.at within one l.from c.loop-from-test.true
          ∙ ap (λ b. b && tail_takes items name (l.at + 1) (l.from + 1)) (sym c.if-fits.ensures));
      later = λ k above taken.
          let step : k + (l.at + 1 - l.behind) ≡ k + (l.at - l.behind) + 1 = omega (arith, inv.behind) in
          ap (tail_takes items name (l.at + 1)) step
          ∙ tail-one_on items name l.at within one (k + (l.at - l.behind)) (inv.later k above taken);
    }

pub loop-from-preserved : goal.loop-from-preserved
loop-from-preserved c =
    let items = c.args.items.now in
    let name = c.args.name.now in
    let l = c.loop-from in
    let inv = c.loop-from.invariant in
    let fails : tail_takes items name l.at l.from ≡ false =
    elim c.else-at-items-2.branch [
      | else-at-items-2-via-then-at-items-2+else-fits w ↦
          let one : (get_or items l.at 0 == 42) ≡ false =
          elim c.else-at-items.branch [
            | else-at-items-via-then-at-items+else-items-at-eq42 v ↦ ne_eqb (get_or items l.at 0) 42 v.if-items-at-eq42.false
            | else-at-items-via-else-at-items v ↦ absurd (omega (arith, v.if-at-items.false, w.if-at-items-2.true))
          ] in
          tail-one items name l.at w.if-at-items-2.true one l.from c.loop-from-test.true
          ∙ ap (λ b. b && tail_takes items name (l.at + 1) (l.from + 1)) (sym w.if-fits.ensures)
      | else-at-items-2-via-else-at-items-2 w ↦
          let at_end : l.at ≡ length items = omega (arith, w.if-at-items-2.false, inv.items) in
          ap (λ i. tail_takes items name i l.from) at_end ∙ tail-end items name l.from c.loop-from-test.true
    ] in
    record {
      items = omega (arith, inv.behind, inv.items);
      name = omega (arith, inv.tried);
      behind = omega arith;
      tried = omega arith;
      same = inv.same
          ∙ ap (λ b. b || run_takes items name l.behind (l.tried + 1)) fails
          ∙ run-here items name l.behind (l.tried + 1);
      later = λ k above taken. let same : k + (l.behind - l.behind) ≡ k = omega arith in ap (tail_takes items name l.behind) same ∙ taken;
    }

pub returns : goal.returns
returns c =
    let items = c.args.items.now in
    let name = c.args.name.now in
    let l = c.loop-from in
    let inv = c.loop-from.invariant in
    all_from_yields_List (λ item. item == 42) _ _ c.all.result c.all.ensures.ran
    (YieldsList-from_slice (take (length items - l.at) (drop l.at items)) cc) (λ x b q k. search (rules, tests))
    ∙ ap (list_all (λ item. item == 42)) (take_rest items l.at)
    ∙ takes-end (drop l.at items)
    ∙ sym (inv.same ∙ name-ends items name l.behind l.at l.tried l.from inv.behind inv.tried inv.later c.loop-from-test.false)
