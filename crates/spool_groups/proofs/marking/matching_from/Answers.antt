use Rattle.std.proofs.Common.{◌≡◌, ◌∙◌, ◌+◌, ◌<◌, ℕ, List, refl, sym, ap, map, subst, arith, Bool, false, get_or, length, drop, take}
use Rattle.std.specs.Prelude.{◌||◌, Some, option_map, slice_get}
use Rattle.std.specs.List.{list_any}
use Rattle.std.proofs.lemmas.List.{drop-map, take_rest}
use Rattle.std.proofs.lemmas.List.Folds.{list_any_more}
use Rattle.std.proofs.lemmas.Option.{slice_get-map}
use Rattle.model.specs.Indexed.{GroupIndex}
use Rattle.model.specs.Stream.{Octets}
use Rattle.spool_groups.specs.Finding.{EachRises, is_matching}
use Rattle.spool_groups.specs.Shown.{shown}
use Rattle.spool_groups.specs.declared.group.Group.{Group}
use Rattle.spool_groups.proofs.Lists.{got, got_dropped, any_mapped, any_rest}
use Rattle.spool_groups.proofs.marking.matching_from.Goals as goal

-- the groups from a place on, if none before it matches
rest_rises : (gs rest : List Group) (k : ℕ) → rest ≡ drop k gs → EachRises (map shown gs) → EachRises (map shown rest)
rest_rises gs rest k is rises j i at =
    rises (k + j) i
    (sym (got_dropped (map shown gs) k j)
    ∙ ap (λ (all : List GroupIndex). slice_get all j) (drop-map shown k gs ∙ ap (map shown) (sym is)) ∙ at)

rest_same : (gs rest : List Group) (k : ℕ) (wildmat : Octets) (serial : ℕ) → rest ≡ drop k gs
    → list_any (λ (g : Group). is_matching wildmat serial (shown g)) (take k gs) ≡ false
    → list_any (is_matching wildmat serial) (map shown rest) ≡ list_any (is_matching wildmat serial) (map shown gs)
rest_same gs rest k wildmat serial is none =
    let test = λ (g : Group). is_matching wildmat serial (shown g) in
    any_mapped shown (is_matching wildmat serial) rest ∙ ap (list_any test) is ∙ any_rest test gs k none
    ∙ sym (any_mapped shown (is_matching wildmat serial) gs)

pub returns-then-has_match-clause-rise : goal.returns-then-has_match-clause-rise
returns-then-has_match-clause-rise c =
    rest_rises c.args.groups.now _ c.loop-place.place (take_rest c.args.groups.now c.loop-place.place)

pub returns-then-has_match-clause-same : goal.returns-then-has_match-clause-same
returns-then-has_match-clause-same c = λ rises serial above.
    rest_same c.args.groups.now _ c.loop-place.place c.args.wildmat.now serial (take_rest c.args.groups.now c.loop-place.place)
    (c.loop-place.invariant rises serial above)

pub loop-place-preserved : goal.loop-place-preserved
loop-place-preserved c = λ rises serial above.
    let gs : List Group = c.args.groups.now in
    let i = c.loop-place.place in
    let g : Group = c.index-groups-place.result in
    let test = λ (h : Group). is_matching c.args.wildmat.now serial (shown h) in
    let within : i < length gs = omega arith in
    let there : slice_get (map shown gs) i ≡ Some (shown g) =
    slice_get-map shown gs i ∙ ap (option_map shown) (got gs i g within ∙ ap Some (sym c.index-groups-place.is)) in
    list_any_more test gs i g within
    ∙ ap (λ (b : Bool). b || test (get_or gs i g)) (c.loop-place.invariant rises serial above)
    ∙ ap test (sym c.index-groups-place.is)
    ∙ c.if-has_match.ensures (rises i (shown g) there) refl serial above

pub returns-clause-same : goal.returns-clause-same
returns-clause-same c = λ rises serial above.
    let gs : List Group = c.args.groups.now in
    let end : c.loop-place.place ≡ length gs = omega arith in
    rest_same gs _ (length gs) c.args.wildmat.now serial (take_rest gs (length gs))
    (subst (λ (n : ℕ). list_any (λ (g : Group). is_matching c.args.wildmat.now serial (shown g)) (take n gs) ≡ false) end
    (c.loop-place.invariant rises serial above))
