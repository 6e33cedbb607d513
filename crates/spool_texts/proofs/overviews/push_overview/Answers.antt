use Rattle.std.proofs.Common.{◌+◌, ◌++◌, ℕ, ◌∙◌, ap, arith}
use Rattle.std.proofs.lemmas.Result.{on_ok_weaker}
use Rattle.model.specs.Stream.{Octets, line}
use Rattle.spool_texts.proofs.Copies.{copied, copies, number_high, renumbered}
use Rattle.spool_texts.proofs.overviews.push_overview.Goals as goal

pub line-start-requires-clause-here : goal.line-start-requires-clause-here
line-start-requires-clause-here g c =
    let has = c.requires.kept.has in
    number_high has.changes c.args.serial c.first_filing-filed.result c.groups.result.now c.index-groups-filed.result
    (c.groups.ensures.spool has.changes has.indexed) c.index-groups-filed.is (c.first_filing-filed.ensures has.changes has.indexed)

pub offset_bounds-overviews-filed : goal.offset_bounds-overviews-filed
offset_bounds-overviews-filed g c =
    let has = c.requires.kept.has in
    let r = copies c.groups.result.now c.index-groups-filed.result c.requires.rule c.requires.kept.placed
    (c.first_filing-filed.ensures has.changes has.indexed) c.overviews.ensures (c.groups.ensures.spool has.changes has.indexed)
    c.index-groups-filed.is in
    omega (arith, r.overview.low, c.overviews.type_inv.1)

pub bounds-overviews-filed : goal.bounds-overviews-filed
bounds-overviews-filed g c =
    let has = c.requires.kept.has in
    let r = copies c.groups.result.now c.index-groups-filed.result c.requires.rule c.requires.kept.placed
    (c.first_filing-filed.ensures has.changes has.indexed) c.overviews.ensures (c.groups.ensures.spool has.changes has.indexed)
    c.index-groups-filed.is in
    r.overview.low

pub overflow_add-rest : goal.overflow_add-rest
overflow_add-rest g c =
    let has = c.requires.kept.has in
    let r = copies c.groups.result.now c.index-groups-filed.result c.requires.rule c.requires.kept.placed
    (c.first_filing-filed.ensures has.changes has.indexed) c.overviews.ensures (c.groups.ensures.spool has.changes has.indexed)
    c.index-groups-filed.is in
    let its = copied r _ _ _ c.line-start.ensures.from c.line-start.ensures.to
    (ap (λ (n : ℕ). c.line-start.result.0 + n) c.digit_count.ensures.count) has.stored in
    omega (arith, its.order)

pub push_numbered-requires : goal.push_numbered-requires
push_numbered-requires g c =
    let has = c.requires.kept.has in
    let r = copies c.groups.result.now c.index-groups-filed.result c.requires.rule c.requires.kept.placed
    (c.first_filing-filed.ensures has.changes has.indexed) c.overviews.ensures (c.groups.ensures.spool has.changes has.indexed)
    c.index-groups-filed.is in
    let its = copied r _ _ _ c.line-start.ensures.from c.line-start.ensures.to
    (ap (λ (n : ℕ). c.line-start.result.0 + n) c.digit_count.ensures.count) has.stored in
    record {
      room = c.requires.room;
      rule = c.requires.rule;
      below = r.overview.below;
      file = r.overview.file;
      order = its.order;
      within = its.within;
      short = its.short;
    }

pub returns-clause-ok : goal.returns-clause-ok
returns-clause-ok g c =
    on_ok_weaker c.push_numbered.result (λ is S indexed placed.
    let r = copies c.groups.result.now c.index-groups-filed.result c.requires.rule placed (c.first_filing-filed.ensures S indexed)
    c.overviews.ensures (c.groups.ensures.spool S indexed) c.index-groups-filed.is in
    is ∙ ap (λ (l : Octets). c.args.reply.now.items ++ line l) (renumbered r _ _ _ c.line-start.ensures.from c.line-start.ensures.to
    (ap (λ (n : ℕ). c.line-start.result.0 + n) c.digit_count.ensures.count) c.args.number)) c.push_numbered.ensures.ok
