use Rattle.std.proofs.Common.{◌≡◌, ◌<◌, ℕ, ◌/◌, ◌%◌, [], List, length, get_or, sym, ◌∙◌, ap, subst, arith}
use Rattle.journal_volume.specs.Pieces.{PiecesView, block_in, octets_of}
use Rattle.journal_volume.proofs.InPieces.{get_or-view, index_there, length-view, was}
use Rattle.journal_volume.proofs.pieces.Pieces.block.Goals as goal

pub index-requires : goal.index-requires
index-requires c =
    let items = c.self.inside.pieces.items in
    let count = c.self.inside.count in
    let below : c.args.number < count =
    omega (arith, c.requires, length-view count (octets_of items), ap (λ (v : PiecesView). length v.blocks) c.self.view_is) in
    omega (arith, index_there count items c.self.invariant c.args.number below)

pub block_of_piece-requires-clause-whole : goal.block_of_piece-requires-clause-whole
block_of_piece-requires-clause-whole c =
    let items = c.self.inside.pieces.items in
    let count = c.self.inside.count in
    let below : c.args.number < count =
    omega (arith, c.requires, length-view count (octets_of items), ap (λ (v : PiecesView). length v.blocks) c.self.view_is) in
    let read = c.as_slice-piece.ensures.value
    ∙ was count items c.self.invariant c.args.number below c.index.result.now c.index.ensures in
    subst (λ (l : List ℕ). 0 < length l → length l ≡ 1048576) (sym read) (c.self.invariant.whole (c.args.number / 256))

pub returns-clause-octets : goal.returns-clause-octets
returns-clause-octets c =
    let items = c.self.inside.pieces.items in
    let count = c.self.inside.count in
    let below : c.args.number < count =
    omega (arith, c.requires, length-view count (octets_of items), ap (λ (v : PiecesView). length v.blocks) c.self.view_is) in
    let read = c.as_slice-piece.ensures.value
    ∙ was count items c.self.invariant c.args.number below c.index.result.now c.index.ensures in
    c.block_of_piece.ensures.octets
    ∙ ap (λ (l : List ℕ). block_in l (c.args.number % 256)) read
    ∙ sym (get_or-view count c.args.number (octets_of items) below)
    ∙ ap (λ (v : PiecesView). get_or v.blocks c.args.number []) c.self.view_is
