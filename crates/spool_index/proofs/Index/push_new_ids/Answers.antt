use Rattle.std.proofs.Common.{◌≡◌, ◌+◌, ◌-◌, ◌<◌, ◌++◌, ◌∙◌, ℕ, Global, Vec, ap, append_assoc, append-nil, arith, false, length, of_z, sym}
use Rattle.std.proofs.Common.{List, map, subst, to_z, w64}
use Rattle.std.specs.List.{list_any}
use Rattle.std.specs.Option.{option_to_list}
use Rattle.std.proofs.lemmas.Int.{to_z-of_z}
use Rattle.std.proofs.lemmas.Bool.{eqb-true}
use Rattle.std.proofs.lemmas.List.{get_or_default, length-map}
use Rattle.model.specs.Names.{wildmat_matches}
use Rattle.model.specs.Spool.{articles}
use Rattle.session_lookups.specs.Held.{article_with, groups_now}
use Rattle.session_lookups.specs.News.{new_lines}
use Rattle.model.specs.Indexed.{GroupIndex}
use Rattle.spool_groups.specs.Finding.{EachRises, is_matching}
use Rattle.spool_groups.specs.Shown.{shown}
use Rattle.spool_groups.proofs.Lists.{none_listed}
use Rattle.spool_index.specs.View.{IndexView}
use Rattle.spool_index.proofs.Growing.{notes_count}
use Rattle.spool_index.proofs.Newest.{all_lines, groups_rise, left_out, lines_more, lines_up_to, matching_rest, no_match, old_lines}
use Rattle.spool_index.proofs.Index.push_new_ids.Goals as goal
use Rattle.spool_index.proofs.Index.push_new_ids.Goals.{then-index+in_ok-push_if_since, else-index}

pub loop-place-init : goal.loop-place-init
loop-place-init c = λ host S lawful is.
    let from = to_z w64 (of_z w64 c.args.from) in
    sym (ap (λ os. c.args.reply.now.items ++ os)
    (old_lines S c.args.wildmat.now from c.older_than-older.result (c.older_than-older.ensures.older S is))
    ∙ append-nil c.args.reply.now.items)

pub loop-place-preserved : goal.loop-place-preserved
loop-place-preserved c = λ host S lawful is.
    let wildmat = c.args.wildmat.now in
    let from = to_z w64 (of_z w64 c.args.from) in
    let n = c.loop-place.place in
    let last = new_lines S wildmat from (option_to_list (article_with S (n + 1))) in
    let front = c.args.reply.now.items ++ lines_up_to S wildmat from n in
    let more = append_assoc c.args.reply.now.items (lines_up_to S wildmat from n) last
    ∙ ap (λ os. c.args.reply.now.items ++ os) (sym (lines_more S wildmat from n)) in
    let place : ℕ = n - c.older_than-older.result in
    let kept : length c.self.inside.notes.items ≡ length c.args.self.now.notes =
    ap (λ (x : IndexView). length x.notes) c.self.view_is in
    let low : place < length c.in_ok-marks.marks.items =
    omega (
      arith,
      kept,
      c.in_ok-marks.ensures.size,
      c.self.inside.notes.ok,
      c.len-place-end.ensures,
      c.loop-place-test.true,
      c.loop-place.auto.place,
    ) in
    let next : c.older_than-older.result + 1 + place ≡ n + 1 = omega (arith, c.loop-place.auto.place) in
    let groups : List GroupIndex = map shown c.matching_from-groups.result.now in
    let all_is : map shown c.deref.result.now ≡ c.args.self.now.groups =
    ap (map shown) c.deref.ensures.value ∙ ap (λ (y : IndexView). y.groups) c.self.view_is in
    let rises = c.matching_from-groups.ensures.rise (subst EachRises (sym all_is) (groups_rise S c.args.self.now is)) in
    let marked : c.index.result.now ≡ list_any (wildmat_matches wildmat) (groups_now S (n + 1)) =
    c.index.ensures ∙ get_or_default c.in_ok-marks.marks.items place c.index.result.now false low
    ∙ c.in_ok-marks.ensures.marked rises place low
    ∙ ap (λ (m : ℕ). list_any (is_matching wildmat m) groups) next
    ∙ matching_rest host S c.args.self.now wildmat c.older_than-older.result (map shown c.deref.result.now) groups lawful is all_is
    c.matching_from-groups.ensures.same (n + 1) (omega (arith, c.loop-place.auto.place)) in
    elim c.if-index.branch [
      | then-index+in_ok-push_if_since w ↦
          ap (λ (v : Vec ℕ Global). v.items) w.reply-is
          ∙ w.in_ok-push_if_since.ensures S wildmat is (sym marked ∙ w.if-index.true)
          ∙ ap (λ os. os ++ last) (c.loop-place.invariant host S lawful is)
          ∙ more
      | else-index w ↦
          ap (λ (v : Vec ℕ Global). v.items) w.reply-is
          ∙ c.loop-place.invariant host S lawful is
          ∙ sym (append-nil front)
          ∙ ap (λ os. front ++ os) (sym (left_out S wildmat from (n + 1) (sym marked ∙ w.if-index.false)))
          ∙ more
    ]

pub returns-then-is_empty : goal.returns-then-is_empty
returns-then-is_empty c = λ host S lawful is.
    let wildmat = c.args.wildmat.now in
    let from = to_z w64 (of_z w64 c.args.from) in
    let same : from ≡ c.args.from = to_z-of_z w64 c.args.from c.ranges.from in
    let groups : List GroupIndex = map shown c.matching_from-groups.result.now in
    let all_is : map shown c.deref.result.now ≡ c.args.self.now.groups =
    ap (map shown) c.deref.ensures.value ∙ ap (λ (y : IndexView). y.groups) c.self.view_is in
    let older = c.older_than-older.result in
    let empty : length groups ≡ 0 =
    length-map c.matching_from-groups.result.now shown
    ∙ eqb-true (length c.matching_from-groups.result.now) 0 (sym c.is_empty.ensures ∙ c.if-is_empty.true) in
    let none = no_match S wildmat from (length S) older (c.older_than-older.ensures.older S is)
    (λ serial above. sym (matching_rest host S c.args.self.now wildmat older (map shown c.deref.result.now) groups lawful is all_is
    c.matching_from-groups.ensures.same serial above) ∙ none_listed (is_matching wildmat serial) groups empty) in
    let all = all_lines S wildmat from ∙ ap (λ moment. new_lines S wildmat moment (articles S)) same in
    sym (ap (λ os. c.args.reply.now.items ++ os) (sym all ∙ none) ∙ append-nil c.args.reply.now.items)

pub returns : goal.returns
returns c = λ host S lawful is.
    let wildmat = c.args.wildmat.now in
    let from = to_z w64 (of_z w64 c.args.from) in
    let same : from ≡ c.args.from = to_z-of_z w64 c.args.from c.ranges.from in
    let count : length c.self.inside.notes.items ≡ length S = ap (λ (x : IndexView). length x.notes) c.self.view_is
    ∙ notes_count S c.args.self.now is in
    let few = c.older_than-older.ensures.few S is in
    let all : c.loop-place.place ≡ length S =
    omega (
      arith,
      few,
      count,
      c.self.inside.notes.ok,
      c.len-place-end.ensures,
      c.loop-place-test.false,
      c.loop-place.auto.place-end,
      c.loop-place.auto.place,
    ) in
    c.loop-place.invariant host S lawful is
    ∙ ap (λ n. c.args.reply.now.items ++ lines_up_to S wildmat from n) all
    ∙ ap (λ os. c.args.reply.now.items ++ os) (all_lines S wildmat from ∙ ap (λ moment. new_lines S wildmat moment (articles S)) same)
