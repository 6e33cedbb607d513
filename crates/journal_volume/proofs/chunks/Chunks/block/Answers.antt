use Rattle.std.proofs.Common.{◌<◌, [], length, get_or, sym, ◌∙◌, ap, arith}
use Rattle.journal_volume.specs.Chunks.{ChunksView}
use Rattle.journal_volume.proofs.InChunks.{in_none, in_slot, length-view, slot_there}
use Rattle.journal_volume.proofs.InPieces.{zeros_are}
use Rattle.journal_volume.proofs.chunks.Chunks.block.Goals as goal

pub place-requires : goal.place-requires
place-requires c =
    let s = c.self.inside in
    omega (arith, c.requires, length-view s.made s.slots, ap (λ (v : ChunksView). length v.blocks) c.self.view_is)

pub block-requires : goal.block-requires
block-requires c = slot_there c.self.inside.made c.self.inside.slots c.self.invariant c.in-Some.slot c.in-Some.ensures.0

pub returns-in-Some-clause-octets : goal.returns-in-Some-clause-octets
returns-in-Some-clause-octets c =
    let s = c.self.inside in
    let n = c.args.number in
    c.block.ensures.octets
    ∙ sym (in_slot s.made s.slots c.self.invariant n c.in-Some.slot c.in-Some.ensures.0 c.in-Some.ensures.1)
    ∙ ap (λ (v : ChunksView). get_or v.blocks n []) c.self.view_is

pub returns-in-None-clause-octets : goal.returns-in-None-clause-octets
returns-in-None-clause-octets c =
    let s = c.self.inside in
    let n = c.args.number in
    let below : n < s.made.bound =
    omega (arith, c.requires, length-view s.made s.slots, ap (λ (v : ChunksView). length v.blocks) c.self.view_is) in
    zeros_are ∙ sym (in_none s.made s.slots c.self.invariant n below c.in-None.ensures)
    ∙ ap (λ (v : ChunksView). get_or v.blocks n []) c.self.view_is
