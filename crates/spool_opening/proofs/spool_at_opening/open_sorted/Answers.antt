use Rattle.std.proofs.Common.{sym, ◌∙◌}
use Rattle.std.proofs.lemmas.Bool.{true≢false}
use Rattle.model.specs.Files.{table}
use Rattle.spool_opening.proofs.Filed.{bounded}
use Rattle.spool_opening.proofs.Holding.{few_first, files_as_many, index_whole, opened, opened_is}
use Rattle.spool_reading.proofs.Slots.{slots_as_many}
use Rattle.spool_opening.proofs.spool_at_opening.open_sorted.Goals as goal

pub returns-in_default-clause-damaged : goal.returns-in_default-clause-damaged
returns-in_default-clause-damaged g c = λ e S held.
    c.in_default.ensures _ (slots_as_many c.args.host.now c.args.inodes (g.B.Blocks.blocks c.args.blocks.now) S c.args.files.now.slots.items
    c.args.files.now.named c.args.files.now.packed c.requires.room.few held c.requires.sorted)

pub are_as_many-requires-clause-bounded : goal.are_as_many-requires-clause-bounded
are_as_many-requires-clause-bounded g c =
    let blocks = g.B.Blocks.blocks c.args.blocks.now in
    let its = c.in-Ok.ensures.ok in
    bounded c.args.host.now c.args.inodes blocks c.in-Ok.replay.index c.in-Ok.replay.places its.changes c.requires.room c.requires.rule
    its.replayed
    (few_first (table c.args.inodes blocks) c.args.files.now.slots.items c.args.files.now.named c.args.files.now.packed _ c.in-Some.count
    c.requires.sorted c.in-Some.ensures its.count_is)

pub are_whole-requires-clause-bounded : goal.are_whole-requires-clause-bounded
are_whole-requires-clause-bounded g c =
    let blocks = g.B.Blocks.blocks c.args.blocks.now in
    let its = c.in-Ok.ensures.ok in
    bounded c.args.host.now c.args.inodes blocks c.in-Ok.replay.index c.in-Ok.replay.places its.changes c.requires.room c.requires.rule
    its.replayed
    (few_first (table c.args.inodes blocks) c.args.files.now.slots.items c.args.files.now.named c.args.files.now.packed _ c.in-Some.count
    c.requires.sorted c.in-Some.ensures its.count_is)

pub returns-then-not-are_as_many-clause-damaged : goal.returns-then-not-are_as_many-clause-damaged
returns-then-not-are_as_many-clause-damaged g c = λ e S held.
    let blocks = g.B.Blocks.blocks c.args.blocks.now in
    let its = c.in-Ok.ensures.ok in
    let these = opened_is c.args.host.now c.args.inodes blocks its.changes S c.args.files.now.slots.items c.args.files.now.named
    c.args.files.now.packed c.in-Some.count c.requires.room.few held its.replayed.read c.requires.sorted c.in-Some.ensures its.count_is in
    true≢false (sym ((c.are_as_many.ensures its.changes its.replayed.indexed).1
    (files_as_many c.args.host.now c.args.inodes blocks its.changes c.args.files.now.slots.items c.args.files.now.named
    c.args.files.now.packed these c.requires.sorted)) ∙ c.if-not-are_as_many.true)

pub returns-then-not-branch-clause-damaged : goal.returns-then-not-branch-clause-damaged
returns-then-not-branch-clause-damaged g c = λ e S held.
    let blocks = g.B.Blocks.blocks c.args.blocks.now in
    let its = c.in-Ok.ensures.ok in
    let these = opened_is c.args.host.now c.args.inodes blocks its.changes S c.args.files.now.slots.items c.args.files.now.named
    c.args.files.now.packed c.in-Some.count c.requires.room.few held its.replayed.read c.requires.sorted c.in-Some.ensures its.count_is in
    true≢false (sym ((c.in_ok-are_whole.ensures its.changes its.replayed.indexed).1
    (λ k low. index_whole c.args.host.now c.args.inodes blocks its.changes k these)) ∙ c.if-not-branch.true)

pub returns-clause-ok : goal.returns-clause-ok
returns-clause-ok g c =
    let blocks = g.B.Blocks.blocks c.args.blocks.now in
    let its = c.in-Ok.ensures.ok in
    opened c.args.host.now c.args.inodes blocks c.in-Ok.replay.index c.in-Ok.replay.places its.changes c.args.files.now.slots.items
    c.args.files.now.named c.args.files.now.packed c.in-Some.count c.requires.room.few c.requires.rule its.replayed c.requires.sorted
    c.in-Some.ensures its.count_is
    ((c.in_ok-are_whole.ensures its.changes its.replayed.indexed).0 c.if-not-branch.false)
    ((c.are_as_many.ensures its.changes its.replayed.indexed).0 c.if-not-are_as_many.false)
