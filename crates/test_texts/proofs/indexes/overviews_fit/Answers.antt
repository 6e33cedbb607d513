use Rattle.std.proofs.Common.{◌≡◌, ◌<◌, ◌∙◌, ap, arith, inl, inr, length, map, sym}
use Rattle.std.specs.Prelude.{Some, option_map, slice_get}
use Rattle.std.proofs.lemmas.Bool.{cases_lt}
use Rattle.std.proofs.lemmas.List.{length-map}
use Rattle.std.proofs.lemmas.Option.{same_Some, slice_get-get_or, slice_get-map, slice_get_within}
use Rattle.spool_groups.specs.Filing.{end_of}
use Rattle.spool_groups.specs.Shown.{shown}
use Rattle.test_texts.proofs.indexes.overviews_fit.Goals as goal

pub loop-group-preserved : goal.loop-group-preserved
loop-group-preserved c = λ k i low at. elim (cases_lt k c.loop-group.group-index) [
  | inl before ↦ c.loop-group.invariant k i before at
  | inr after ↦
      let gs = c.args.groups.now in
      let here : k ≡ c.loop-group.group-index = omega arith in
      let small : c.loop-group.group-index < length gs = omega arith in
      let at_place = slice_get-map shown gs c.loop-group.group-index in
      let got = slice_get-get_or gs c.loop-group.group-index c.group-item.result small in
      let found : Some (shown c.group-item.result) ≡ Some i =
      ap (λ g. Some (shown g)) c.group-item.is ∙ sym (at_place ∙ ap (option_map shown) got) ∙ ap (slice_get (map shown gs)) (sym here)
      ∙ at in
      let its : end_of (shown c.group-item.result) ≡ end_of i = ap end_of (same_Some (shown c.group-item.result) i found) in
      omega (arith, its, c.overview_size.ensures, c.if-overview_size-ge-OVERVIEW_LIMIT.false)
]

pub returns : goal.returns
returns c = λ k i at.
    let low = slice_get_within (map shown c.args.groups.now) k i at in
    c.loop-group.invariant k i (omega (arith, low, length-map c.args.groups.now shown)) at
