use Rattle.std.proofs.Common.{◌-◌, length, length-append, append-nil, vec_len, ◌∙◌, ap, arith}
use Rattle.model.specs.Stream.{Octets, dot_line}
use Rattle.spool_texts.specs.Parts.{lines_of}
use Rattle.spool_texts.proofs.Making.{at_end, fits, how_many, left_has, made_less, made_whole, reads, rises, some_made, within}
use Rattle.spool_texts.proofs.overview_parts.push_some_lines.Goals as goal

pub append_lines-next-requires-clause-below : goal.append_lines-next-requires-clause-below
append_lines-next-requires-clause-below g c =
    let k = c.requires.kept in
    let r = reads c.groups.result.now c.index-groups-lines.result c.requires.rule k.placed k.has c.overviews.ensures
    (c.groups.ensures.spool k.changes k.indexed) c.index-groups-lines.is in
    r.overview.below

pub append_lines-next-requires-clause-file : goal.append_lines-next-requires-clause-file
append_lines-next-requires-clause-file g c =
    let k = c.requires.kept in
    let r = reads c.groups.result.now c.index-groups-lines.result c.requires.rule k.placed k.has c.overviews.ensures
    (c.groups.ensures.spool k.changes k.indexed) c.index-groups-lines.is in
    r.overview.file

pub append_lines-next-requires-clause-high : goal.append_lines-next-requires-clause-high
append_lines-next-requires-clause-high g c =
    let k = c.requires.kept in
    let r = reads c.groups.result.now c.index-groups-lines.result c.requires.rule k.placed k.has c.overviews.ensures
    (c.groups.ensures.spool k.changes k.indexed) c.index-groups-lines.is in
    within r

pub append_lines-next-requires-clause-rise : goal.append_lines-next-requires-clause-rise
append_lines-next-requires-clause-rise g c =
    let k = c.requires.kept in
    let r = reads c.groups.result.now c.index-groups-lines.result c.requires.rule k.placed k.has c.overviews.ensures
    (c.groups.ensures.spool k.changes k.indexed) c.index-groups-lines.is in
    rises r

pub append_lines-next-requires-clause-fit : goal.append_lines-next-requires-clause-fit
append_lines-next-requires-clause-fit g c =
    let k = c.requires.kept in
    let r = reads c.groups.result.now c.index-groups-lines.result c.requires.rule k.placed k.has c.overviews.ensures
    (c.groups.ensures.spool k.changes k.indexed) c.index-groups-lines.is in
    fits r k.stored

pub append_lines-next-requires-clause-capacity : goal.append_lines-next-requires-clause-capacity
append_lines-next-requires-clause-capacity g c =
    let k = c.requires.kept in
    let r = reads c.groups.result.now c.index-groups-lines.result c.requires.rule k.placed k.has c.overviews.ensures
    (c.groups.ensures.spool k.changes k.indexed) c.index-groups-lines.is in
    omega (arith, c.requires.capacity, how_many r)

pub overflow_sub-result : goal.overflow_sub-result
overflow_sub-result g c =
    let k = c.requires.kept in
    let r = reads c.groups.result.now c.index-groups-lines.result c.requires.rule k.placed k.has c.overviews.ensures
    (c.groups.ensures.spool k.changes k.indexed) c.index-groups-lines.is in
    omega (
      arith,
      made_less r c.append_lines-next.result c.args.octets.now.items c.append_lines-next.new.octets.items
          c.append_lines-next.ensures.low c.append_lines-next.ensures.high c.append_lines-next.ensures.made,
    )

pub returns-then-len-gt-RELEASE_OCTETS-clause-made : goal.returns-then-len-gt-RELEASE_OCTETS-clause-made
returns-then-len-gt-RELEASE_OCTETS-clause-made g c =
    λ S indexed placed has.
    let r = reads c.groups.result.now c.index-groups-lines.result c.requires.rule placed has c.overviews.ensures
    (c.groups.ensures.spool S indexed) c.index-groups-lines.is in
    some_made r c.append_lines-next.result (c.args.lines.octets - (c.len-then-len-gt-RELEASE_OCTETS.result - c.len-before.result))
    c.args.octets.now.items c.append_lines-next.new.octets.items c.append_lines-next.ensures.low c.append_lines-next.ensures.high
    c.append_lines-next.ensures.made

pub returns-then-len-gt-RELEASE_OCTETS-clause-kept : goal.returns-then-len-gt-RELEASE_OCTETS-clause-kept
returns-then-len-gt-RELEASE_OCTETS-clause-kept g c =
    λ S indexed placed has.
    let r = reads c.groups.result.now c.index-groups-lines.result c.requires.rule placed has c.overviews.ensures
    (c.groups.ensures.spool S indexed) c.index-groups-lines.is in
    left_has r c.append_lines-next.result (c.len-then-len-gt-RELEASE_OCTETS.result - c.len-before.result) c.args.octets.now.items
    c.append_lines-next.new.octets.items c.append_lines-next.ensures.low c.append_lines-next.ensures.high c.append_lines-next.ensures.made
    (omega arith)

pub append-requires : goal.append-requires
append-requires g c =
    let k = c.requires.kept in
    let r = reads c.groups.result.now c.index-groups-lines.result c.requires.rule k.placed k.has c.overviews.ensures
    (c.groups.ensures.spool k.changes k.indexed) c.index-groups-lines.is in
    let whole = at_end c.append_lines-next.result c.args.lines.end (vec_len c.append_lines-next.new.octets) c.append_lines-next.ensures.high
    c.append_lines-next.ensures.many (omega arith) in
    omega (
      arith,
      k.has.octets,
      ap (λ (l : Octets). length l) (made_whole r c.append_lines-next.result c.args.octets.now.items c.append_lines-next.new.octets.items
          whole c.append_lines-next.ensures.made),
      length-append c.append_lines-next.new.octets.items dot_line,
      length-append c.args.octets.now.items (lines_of k.changes c.args.lines),
      c.requires.capacity,
      c.append_lines-next.ensures.capacity,
    )

pub returns-clause-made : goal.returns-clause-made
returns-clause-made g c =
    λ S indexed placed has.
    let r = reads c.groups.result.now c.index-groups-lines.result c.requires.rule placed has c.overviews.ensures
    (c.groups.ensures.spool S indexed) c.index-groups-lines.is in
    let whole = at_end c.append_lines-next.result c.args.lines.end (vec_len c.append_lines-next.new.octets) c.append_lines-next.ensures.high
    c.append_lines-next.ensures.many (omega arith) in
    append-nil c.append.new.octets.items ∙ c.append.ensures.items
    ∙ made_whole r c.append_lines-next.result c.args.octets.now.items c.append_lines-next.new.octets.items whole
    c.append_lines-next.ensures.made
