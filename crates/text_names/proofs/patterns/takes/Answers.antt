use Rattle.std.proofs.Common.{◌∙◌, ap, sym, inl, inr, ◌+◌, ◌<◌, length, arith}
use Rattle.std.specs.Prelude.{◌&&◌, get_or}
use Rattle.std.proofs.lemmas.Bool.{cases_lt, eq-eqb, ne_eqb}
use Rattle.text_names.proofs.TakesLaws.{tail_takes, tail-one, tail-one_past, tail-end, tail-all}
use Rattle.text_names.proofs.patterns.takes.Goals as goal
use Rattle.text_names.proofs.patterns.takes.Goals.{then-at-name-via-then-at-name, then-at-name-via-else-at-name+then-not-fits}

pub returns-then-at-name : goal.returns-then-at-name
returns-then-at-name c =
    let items = c.args.items.now in
    let name = c.args.name.now in
    let at = c.loop-at.at in
    let inv = c.loop-at.invariant in
    let one = ne_eqb (get_or items at 0) 42 c.if-items-at-ne42.true in
    sym (inv.same ∙ elim c.then-at-name.branch [
      | then-at-name-via-then-at-name w ↦ tail-one_past items name at c.loop-at-test.true one at (omega (arith, w.if-at-name.true))
      | then-at-name-via-else-at-name+then-not-fits w ↦
          tail-one items name at c.loop-at-test.true one at (omega (arith, w.if-at-name.false, inv.name))
          ∙ ap (λ b. b && tail_takes items name (at + 1) (at + 1)) (sym w.if-not-fits.ensures)
    ])

pub loop-at-preserved : goal.loop-at-preserved
loop-at-preserved c =
    let items = c.args.items.now in
    let name = c.args.name.now in
    let at = c.loop-at.at in
    let inv = c.loop-at.invariant in
    let before : at < length name = omega (arith, c.if-at-name.false, inv.name) in
    record {
      items = omega arith;
      name = omega arith;
      same = inv.same
          ∙ tail-one items name at c.loop-at-test.true (ne_eqb (get_or items at 0) 42 c.if-items-at-ne42.true) at before
          ∙ ap (λ b. b && tail_takes items name (at + 1) (at + 1)) (sym c.if-not-fits.ensures);
    }

pub returns-then-at-items : goal.returns-then-at-items
returns-then-at-items c =
    let items = c.args.items.now in
    let name = c.args.name.now in
    let at = c.loop-at.at in
    let inv = c.loop-at.invariant in
    let whole = inv.same ∙ ap (λ i. tail_takes items name i at) c.if-at-items.true in
    elim (cases_lt at (length name)) [
      | inl before ↦ ne_eqb at (length name) (λ same. absurd (omega (arith, same, before))) ∙ sym (whole ∙ tail-end items name at before)
      | inr after ↦ eq-eqb at (length name) (omega (arith, after, inv.name)) ∙ sym (whole ∙ tail-all items name at after)
    ]
