use Rattle.std.proofs.Common.{◌≡◌, ◌<◌, ℕ, ◌/◌, List, length, sym, ◌∙◌, ap, subst, arith}
use Rattle.journal_volume.specs.Pieces.{PiecesView, ArePieces, IsMade, octets_of, view_of}
use Rattle.journal_volume.proofs.InPieces.{index_there, length-view, was, kept_is, filled_are, filled_blocks, filled_room, filled_kept}
use Rattle.journal_volume.proofs.pieces.Pieces.make_room.Goals as goal

pub index_mut-requires : goal.index_mut-requires
index_mut-requires c =
    let items = c.self.inside.pieces.items in
    let count = c.self.inside.count in
    let below : c.args.number < count =
    omega (arith, c.requires, length-view count (octets_of items), ap (λ (v : PiecesView). length v.blocks) c.self.view_is) in
    omega (arith, index_there count items c.self.invariant c.args.number below)

pub fill_up-requires : goal.fill_up-requires
fill_up-requires c =
    let items = c.self.inside.pieces.items in
    let count = c.self.inside.count in
    let below : c.args.number < count =
    omega (arith, c.requires, length-view count (octets_of items), ap (λ (v : PiecesView). length v.blocks) c.self.view_is) in
    let read = was count items c.self.invariant c.args.number below c.index_mut.result.now c.index_mut.ensures.value in
    subst (λ (l : List ℕ). 0 < length l → length l ≡ 1048576) (sym read) (c.self.invariant.whole (c.args.number / 256))

pub invariant_of-self : goal.invariant_of-self
invariant_of-self c =
    let items = c.self.inside.pieces.items in
    let count = c.self.inside.count in
    let below : c.args.number < count =
    omega (arith, c.requires, length-view count (octets_of items), ap (λ (v : PiecesView). length v.blocks) c.self.view_is) in
    let same = kept_is count items c.self.invariant c.args.number below c.index_mut.result.now c.index_mut.ensures.value
    c.fill_up.new.piece c.in_err-fill_up.ensures.refused in
    subst (λ (l : List (List ℕ)). ArePieces count l) (sym same) c.self.invariant

pub returns-in_err-fill_up-clause-blocks : goal.returns-in_err-fill_up-clause-blocks
returns-in_err-fill_up-clause-blocks c =
    let items = c.self.inside.pieces.items in
    let count = c.self.inside.count in
    let below : c.args.number < count =
    omega (arith, c.requires, length-view count (octets_of items), ap (λ (v : PiecesView). length v.blocks) c.self.view_is) in
    let same = kept_is count items c.self.invariant c.args.number below c.index_mut.result.now c.index_mut.ensures.value
    c.fill_up.new.piece c.in_err-fill_up.ensures.refused in
    ap (λ (l : List (List ℕ)). (view_of count l).blocks) same
    ∙ ap (λ (v : PiecesView). v.blocks) c.self.view_is

pub returns-in_err-fill_up-clause-kept : goal.returns-in_err-fill_up-clause-kept
returns-in_err-fill_up-clause-kept c k made =
    let items = c.self.inside.pieces.items in
    let count = c.self.inside.count in
    let below : c.args.number < count =
    omega (arith, c.requires, length-view count (octets_of items), ap (λ (v : PiecesView). length v.blocks) c.self.view_is) in
    let same = kept_is count items c.self.invariant c.args.number below c.index_mut.result.now c.index_mut.ensures.value
    c.fill_up.new.piece c.in_err-fill_up.ensures.refused in
    subst (λ (l : List (List ℕ)). IsMade (view_of count l).made k) (sym same)
    (subst (λ (v : PiecesView). IsMade v.made k) (sym c.self.view_is) made)

pub invariant_of-self-2 : goal.invariant_of-self-2
invariant_of-self-2 c =
    let items = c.self.inside.pieces.items in
    let count = c.self.inside.count in
    let below : c.args.number < count =
    omega (arith, c.requires, length-view count (octets_of items), ap (λ (v : PiecesView). length v.blocks) c.self.view_is) in
    filled_are count items c.self.invariant c.args.number below c.index_mut.result.now c.index_mut.ensures.value c.fill_up.new.piece
    c.in_ok-fill_up.ensures.size c.fill_up.ensures.blocks

pub returns-clause-blocks : goal.returns-clause-blocks
returns-clause-blocks c =
    let items = c.self.inside.pieces.items in
    let count = c.self.inside.count in
    let below : c.args.number < count =
    omega (arith, c.requires, length-view count (octets_of items), ap (λ (v : PiecesView). length v.blocks) c.self.view_is) in
    filled_blocks count items c.self.invariant c.args.number below c.index_mut.result.now c.index_mut.ensures.value c.fill_up.new.piece
    c.in_ok-fill_up.ensures.size c.fill_up.ensures.blocks
    ∙ ap (λ (v : PiecesView). v.blocks) c.self.view_is

pub returns-clause-room : goal.returns-clause-room
returns-clause-room c =
    let items = c.self.inside.pieces.items in
    let count = c.self.inside.count in
    let below : c.args.number < count =
    omega (arith, c.requires, length-view count (octets_of items), ap (λ (v : PiecesView). length v.blocks) c.self.view_is) in
    filled_room count items c.self.invariant c.args.number below c.index_mut.result.now c.index_mut.ensures.value c.fill_up.new.piece
    c.in_ok-fill_up.ensures.size c.fill_up.ensures.blocks

pub returns-clause-kept : goal.returns-clause-kept
returns-clause-kept c k made =
    let items = c.self.inside.pieces.items in
    let count = c.self.inside.count in
    let below : c.args.number < count =
    omega (arith, c.requires, length-view count (octets_of items), ap (λ (v : PiecesView). length v.blocks) c.self.view_is) in
    filled_kept count items c.self.invariant c.args.number below c.index_mut.result.now c.index_mut.ensures.value c.fill_up.new.piece
    c.in_ok-fill_up.ensures.size c.fill_up.ensures.blocks
    k (subst (λ (v : PiecesView). IsMade v.made k) (sym c.self.view_is) made)
