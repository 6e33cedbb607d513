use Rattle.std.proofs.Common.{◌≡◌, ◌∙◌, ◌+◌, ◌<◌, List, sym, ap, map, arith, Bool, false, true, length, refl, take}
use Rattle.std.specs.Prelude.{◌||◌, Some, option_map, slice_get, slice_index_or}
use Rattle.std.specs.List.{list_any}
use Rattle.std.proofs.lemmas.List.{take_all}
use Rattle.std.proofs.lemmas.List.Folds.{list_any_more}
use Rattle.std.proofs.lemmas.Option.{slice_get-map}
use Rattle.spool_groups.specs.Finding.{is_matching}
use Rattle.spool_groups.specs.Shown.{shown}
use Rattle.spool_groups.specs.declared.group.Group.{Group}
use Rattle.spool_groups.proofs.Lists.{got, any_mapped}
use Rattle.spool_groups.proofs.marking.mark_groups.Goals as goal

or_assoc : (a b c : Bool) → ((a || b) || c) ≡ (a || (b || c))
or_assoc true b c = refl
or_assoc false b c = refl

pub loop-group-preserved : goal.loop-group-preserved
loop-group-preserved c = λ rises k low.
    let gs : List Group = c.args.groups.now in
    let i = c.loop-group.group-index in
    let g : Group = c.group-item.result in
    let test = λ (h : Group). is_matching c.args.wildmat.now (c.args.older + 1 + k) (shown h) in
    let within : i < length gs = omega arith in
    let there : slice_get (map shown gs) i ≡ Some (shown g) =
    slice_get-map shown gs i ∙ ap (option_map shown) (got gs i g within ∙ ap Some (sym c.group-item.is)) in
    let before : Bool = slice_index_or c.args.marks.now k false in
    c.mark_if_matching.ensures (rises i (shown g) there) k (omega arith)
    ∙ ap (λ (b : Bool). b || test g) (c.loop-group.invariant rises k (omega arith))
    ∙ or_assoc before (list_any test (take i gs)) (test g)
    ∙ ap (λ (h : Group). before || (list_any test (take i gs) || test h)) c.group-item.is
    ∙ ap (λ (b : Bool). before || b) (sym (list_any_more test gs i g within))

pub returns : goal.returns
returns c = λ rises k low.
    let gs : List Group = c.args.groups.now in
    let test = λ (h : Group). is_matching c.args.wildmat.now (c.args.older + 1 + k) (shown h) in
    c.loop-group.invariant rises k (omega arith)
    ∙ ap (λ (b : Bool). slice_index_or c.args.marks.now k false || b)
    (ap (list_any test) (take_all c.loop-group.group-index gs (omega arith))
    ∙ sym (any_mapped shown (is_matching c.args.wildmat.now (c.args.older + 1 + k)) gs))
