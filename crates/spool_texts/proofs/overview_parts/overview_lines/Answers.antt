use Rattle.std.proofs.Common.{◌≤◌, ◌+◌, ◌-◌, ◌*◌, length, length-append, ap, arith}
use Rattle.model.specs.Spool.{filed_in}
use Rattle.model.specs.Stream.{Octets, dot_line}
use Rattle.model.proofs.HoldsOne.{high_few}
use Rattle.session_lookups.specs.Held.{overviews_between}
use Rattle.spool_groups.specs.Shown.{shown}
use Rattle.spool_texts.proofs.Groups.{is_at}
use Rattle.spool_texts.proofs.Making.{kept_at, range_lines, range_sized, range_there, range_within}
use Rattle.spool_texts.proofs.overview_parts.overview_lines.Goals as goal

pub line-start-requires-clause-here : goal.line-start-requires-clause-here
line-start-requires-clause-here c =
    let there = c.requires.there in
    let high = range_within there c.in-Some.place c.groups.result.now c.index-groups-place.result c.in-Some.ensures.there
    (c.groups.ensures.spool there.changes there.indexed) c.index-groups-place.is in
    omega (arith, high, there.order)

pub line-stop-requires-clause-here : goal.line-stop-requires-clause-here
line-stop-requires-clause-here c =
    let there = c.requires.there in
    let high = range_within there c.in-Some.place c.groups.result.now c.index-groups-place.result c.in-Some.ensures.there
    (c.groups.ensures.spool there.changes there.indexed) c.index-groups-place.is in
    omega (arith, high)

pub overflow_add-end : goal.overflow_add-end
overflow_add-end c =
    let there = c.requires.there in
    omega (arith, high_few there.changes c.args.group.now, there.stored.few, there.high, there.order, there.first)

pub overflow_sub-result : goal.overflow_sub-result
overflow_sub-result c =
    let there = c.requires.there in
    let sized = range_there there c.in-Some.place c.groups.result.now c.index-groups-place.result c.in-Some.ensures.there
    (c.groups.ensures.spool there.changes there.indexed) c.index-groups-place.is _ _ c.line-start.ensures.from
    c.line-stop.ensures.to in
    sized.order

pub overflow_mul-result : goal.overflow_mul-result
overflow_mul-result c =
    let there = c.requires.there in
    omega (arith, high_few there.changes c.args.group.now, there.stored.few, there.high, there.order, there.first)

pub overflow_add-result : goal.overflow_add-result
overflow_add-result c =
    let there = c.requires.there in
    let sized = range_there there c.in-Some.place c.groups.result.now c.index-groups-place.result c.in-Some.ensures.there
    (c.groups.ensures.spool there.changes there.indexed) c.index-groups-place.is _ _ c.line-start.ensures.from
    c.line-stop.ensures.to in
    omega (arith, sized.few there.stored)

pub overflow_add-result-2 : goal.overflow_add-result-2
overflow_add-result-2 c =
    let there = c.requires.there in
    let sized = range_there there c.in-Some.place c.groups.result.now c.index-groups-place.result c.in-Some.ensures.there
    (c.groups.ensures.spool there.changes there.indexed) c.index-groups-place.is _ _ c.line-start.ensures.from
    c.line-stop.ensures.to in
    omega (arith, sized.few there.stored)

pub returns-clause-has : goal.returns-clause-has
returns-clause-has c =
    let there = c.requires.there in
    let within = range_within there c.in-Some.place c.groups.result.now c.index-groups-place.result c.in-Some.ensures.there
    (c.groups.ensures.spool there.changes there.indexed) c.index-groups-place.is in
    λ S indexed.
    let its = is_at S c.args.index.now c.args.group.now c.in-Some.place indexed c.in-Some.ensures.there in
    let kept = kept_at S c.groups.result.now c.args.group.now c.in-Some.place c.index-groups-place.result its
    (c.groups.ensures.spool S indexed) c.index-groups-place.is in
    let high : c.args.to ≤ length (filed_in S c.args.group.now) = omega (arith, within, kept.count) in
    let sized = range_sized S c.args.group.now (shown c.index-groups-place.result).ends c.args.from c.args.to c.line-start.result.0
    c.line-stop.result.1 kept.ends there.first there.order high c.line-start.ensures.from c.line-stop.ensures.to in
    let octets = c.line-stop.result.1 - c.line-start.result.0 + (c.args.to + 1 - c.args.from) * 2 + 3 in
    let lines = range_lines S c.args.group.now c.in-Some.place c.args.from c.args.to octets its in
    record {
      group = its.group;
      there = its.at;
      first = there.first;
      order = omega (arith, there.order);
      high = omega (arith, high, ap (λ (g : Octets). length (filed_in S g)) its.its_name);
      octets = omega (
        arith,
        sized.order,
        sized.size,
        ap (λ (l : Octets). length l) lines,
        length-append (overviews_between S c.args.group.now c.args.from c.args.to) dot_line,
      );
    }

pub returns-clause-are : goal.returns-clause-are
returns-clause-are c =
    λ S indexed. range_lines S c.args.group.now c.in-Some.place c.args.from c.args.to _
    (is_at S c.args.index.now c.args.group.now c.in-Some.place indexed c.in-Some.ensures.there)
