use Rattle.std.proofs.Common.{◌<◌, length, ◌∙◌, ap, arith}
use Rattle.journal_volume.specs.Chunks.{ChunksView}
use Rattle.journal_volume.proofs.InChunks.{given_blocks, given_has, length-view, next_there}
use Rattle.journal_volume.proofs.chunks.Chunks.make_room.Goals as goal

pub place-requires : goal.place-requires
place-requires c =
    let s = c.self.inside in
    omega (arith, c.requires, length-view s.made s.slots, ap (λ (v : ChunksView). length v.blocks) c.self.view_is)

pub insert-requires-clause-below : goal.insert-requires-clause-below
insert-requires-clause-below c =
    let s = c.self.inside in
    omega (arith, c.requires, length-view s.made s.slots, ap (λ (v : ChunksView). length v.blocks) c.self.view_is)

pub make_room-requires : goal.make_room-requires
make_room-requires c =
    let s = c.self.inside in
    let n = c.args.number in
    let there : n < s.made.bound =
    omega (arith, c.requires, length-view s.made s.slots, ap (λ (v : ChunksView). length v.blocks) c.self.view_is) in
    omega (
      arith,
      next_there s.made s.slots c.self.invariant n there c.in_default.ensures,
      c.self.invariant.size,
      ap length c.as_slice.ensures,
    )

pub returns-clause-blocks : goal.returns-clause-blocks
returns-clause-blocks c =
    let s = c.self.inside in
    let n = c.args.number in
    let there : n < s.made.bound =
    omega (arith, c.requires, length-view s.made s.slots, ap (λ (v : ChunksView). length v.blocks) c.self.view_is) in
    given_blocks s.made s.slots c.self.invariant n there c.in_default.ensures c.insert.new.self c.make_room.new.self c.insert.ensures.added
    c.make_room.ensures.blocks
    ∙ ap (λ (v : ChunksView). v.blocks) c.self.view_is

pub returns-clause-room : goal.returns-clause-room
returns-clause-room c =
    let s = c.self.inside in
    let n = c.args.number in
    let there : n < s.made.bound =
    omega (arith, c.requires, length-view s.made s.slots, ap (λ (v : ChunksView). length v.blocks) c.self.view_is) in
    given_has s.made s.slots c.self.invariant n there c.in_default.ensures c.insert.new.self c.make_room.new.self c.insert.ensures.added
    c.make_room.ensures.blocks
