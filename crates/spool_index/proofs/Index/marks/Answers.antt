use Rattle.std.proofs.Common.{◌≡◌, ◌∙◌, ◌+◌, ◌++◌, ◌<◌, List, Bool, ap, arith, drop, false, length, map, replicate, subst, take}
use Rattle.std.specs.Prelude.{◌||◌, slice_index_or}
use Rattle.std.specs.List.{list_any}
use Rattle.std.proofs.lemmas.List.{get_or-replicate}
use Rattle.spool_groups.specs.Finding.{is_matching}
use Rattle.spool_groups.specs.Shown.{shown}
use Rattle.spool_groups.proofs.Steps.{written}
use Rattle.spool_index.proofs.Index.marks.Goals as goal

pub returns-clause-marked : goal.returns-clause-marked
returns-clause-marked c = λ rises k low.
    let made : List Bool = c.in_ok-marks.marks.items in
    let marked : List Bool = c.mark_groups.new.marks in
    let size = c.saturating_sub-size.result in
    let unmarked : made ≡ replicate size false = c.in_ok-marks.ensures.items_if_clones_equal (λ y same. same) in
    let lent : c.deref_mut.result.now ≡ made = c.deref_mut.ensures.value in
    let count : length marked ≡ c.in_ok-marks.marks.len = omega (arith, c.mark_groups.auto.marks, c.deref_mut.ensures.len) in
    let back : take c.in_ok-marks.marks.len (marked ++ drop (length marked) made) ≡ marked =
    written made marked c.in_ok-marks.marks.len count in
    let within : k < length marked = subst (λ (ms : List Bool). k < length ms) back low in
    let none : slice_index_or c.deref_mut.result.now k false ≡ false =
    ap (λ (ms : List Bool). slice_index_or ms k false) (lent ∙ unmarked)
    ∙ get_or-replicate size k false false (omega (arith, within, count, c.in_ok-marks.ensures.len)) in
    ap (λ (ms : List Bool). slice_index_or ms k false) back
    ∙ c.mark_groups.ensures rises k (omega (arith, within, c.mark_groups.auto.marks))
    ∙ ap (λ (b : Bool). b || list_any (is_matching c.args.wildmat.now (c.args.older + 1 + k)) (map shown c.args.groups.now)) none
