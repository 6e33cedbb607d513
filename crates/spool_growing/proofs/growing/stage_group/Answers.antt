use Rattle.std.proofs.Common.{ℕ, ◌+◌, ◌∙◌, sym, subst, ap, arith, refl}
use Rattle.model.specs.Stream.{Octets}
use Rattle.model.specs.Records.{group_record}
use Rattle.model.specs.Spool.{news_group}
use Rattle.spool_index.proofs.Callers.{no_head}
use Rattle.spool_growing.specs.Growing.{LacksGroup, MakesGroup}
use Rattle.spool_growing.proofs.Grown.{group_staged, lacks_group}
use Rattle.spool_growing.proofs.Ready.{few_changes, free_seen, held_seen, known_seen, short_record}
use Rattle.spool_growing.proofs.growing.stage_group.Goals as goal

pub overflow_add-serial : goal.overflow_add-serial
overflow_add-serial c = omega (arith, c.len-serial.ensures c.requires.changes c.requires.kept.indexed, few_changes c.requires)

pub make_group-requires-clause-room : goal.make_group-requires-clause-room
make_group-requires-clause-room c = (held_seen c.requires).room

pub make_group-requires-clause-rule : goal.make_group-requires-clause-rule
make_group-requires-clause-rule c = (held_seen c.requires).held.held.rule

pub make_group-requires-clause-short : goal.make_group-requires-clause-short
make_group-requires-clause-short c =
    short_record c.requires c.deref.result.now (c.deref.ensures.value ∙ c.in_ok-record.ensures
    ∙ ap (λ (n : ℕ). group_record (news_group (n + 1) c.args.group)) (c.len-serial.ensures c.requires.changes c.requires.kept.indexed))

pub make_group-requires-clause-lacks : goal.make_group-requires-clause-lacks
make_group-requires-clause-lacks c =
    let k = c.args.kept.now in
    subst (λ (name : Octets). LacksGroup k.inodes k.volume.seen name) (sym c.as_slice.ensures)
    (lacks_group c.requires.host k.inodes k.volume.seen c.requires.changes c.args.group.name (held_seen c.requires) c.requires.may.new)

pub make_group-requires-clause-free : goal.make_group-requires-clause-free
make_group-requires-clause-free c = free_seen c.requires

pub make_group-requires-clause-known : goal.make_group-requires-clause-known
make_group-requires-clause-known c = known_seen c.requires

pub push_group-requires-2 : goal.push_group-requires-2
push_group-requires-2 c =
    no_head c.requires.changes c.args.kept.now.index c.args.group.name c.requires.kept.indexed c.requires.may.new

pub returns-clause-staged : goal.returns-clause-staged
returns-clause-staged c =
    let k = c.args.kept.now in
    let at = c.in_ok-made.made in
    let its = c.in_ok-made.ensures in
    let made = subst (λ (name : Octets). MakesGroup k.inodes at.at at.numbers at.overview name c.deref.result.now k.volume.seen
    c.make_group.new.blocks.seen) c.as_slice.ensures its.made in
    group_staged k _ c.make_group.new.free c.args.group at.at at.numbers at.overview c.deref.result.now
    (record { inodes = refl; volume = its.kept; count = made.calls.count; touches = its.touches; known = its.known })
    made c.in_ok-push_group.ensures.ok c.in-Ok.ensures.ok
    (λ S indexed. c.deref.ensures.value ∙ c.in_ok-record.ensures
    ∙ ap (λ (n : ℕ). group_record (news_group (n + 1) c.args.group)) (c.len-serial.ensures S indexed))
