use Rattle.std.proofs.Common.{◌+◌, ◌∙◌, List, ap, arith, map, refl, sym}
use Rattle.std.specs.Prelude.{option_map}
use Rattle.program_lists.specs.Lists.{asked, said}
use Rattle.program_lists.specs.declared.reading.Listed.{Listed}
use Rattle.program_lists.proofs.Listing.{listed_at, silent_at}
use Rattle.program_lists.proofs.reading.read_list.Goals.{in-Some+in_ok-push, in_default}
use Rattle.program_lists.proofs.reading.read_list.Goals as goal

pub lines-preserved : goal.lines-preserved
lines-preserved c =
    elim c.match-branch-2.branch [
      | in-Some+in_ok-push w ↦
          let one : Listed = record { line = c.lines.place + 1; asked = w.in-Some.asked } in
          ap (λ v. map said v.items) w.listed-is ∙ ap (λ (listed : List Listed). map said listed) w.in_ok-push.ensures.items
          ∙ listed_at c.args.lines.now c.args.moment c.lines.place _ c.lines.listed.items (omega (arith, c.lines-test.true))
          c.lines.invariant one refl (sym c.in_ok-asked.ensures ∙ ap (option_map asked) w.in-Some.is)
      | in_default w ↦
          ap (λ v. map said v.items) w.listed-is
          ∙ silent_at c.args.lines.now c.args.moment c.lines.place _ c.lines.listed.items (omega (arith, c.lines-test.true))
          c.lines.invariant (sym c.in_ok-asked.ensures ∙ ap (option_map asked) w.in_default.is)
    ]
