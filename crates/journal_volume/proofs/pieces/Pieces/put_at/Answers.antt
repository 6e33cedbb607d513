use Rattle.std.proofs.Common.{◌≡◌, ◌<◌, ◌≤◌, ℕ, ◌+◌, ◌*◌, ◌/◌, ◌%◌, [], List, length, get_or, set, sym, ◌∙◌, ap, subst, arith}
use Rattle.std.proofs.lemmas.List.{with_items_is}
use Rattle.std.specs.Vec.{with_items}
use Rattle.disk.specs.Image.{overwritten}
use Rattle.model.specs.Volume.{block}
use Rattle.fs_blocks.proofs.Parts.{length-written}
use Rattle.journal_volume.specs.Pieces.{PiecesView, IsMade, block_in, octets_of}
use Rattle.journal_volume.proofs.InPieces.{get_or-view, has_octets, in_some, index_there, length-view, put_are, put_view, was}
use Rattle.journal_volume.proofs.pieces.Pieces.put_at.Goals as goal

pub index_mut-requires : goal.index_mut-requires
index_mut-requires c =
    let items = c.self.inside.pieces.items in
    let count = c.self.inside.count in
    let below : c.args.number < count =
    omega (arith, c.requires.there, length-view count (octets_of items), ap (λ (v : PiecesView). length v.blocks) c.self.view_is) in
    omega (arith, index_there count items c.self.invariant c.args.number below)

pub put_in_block-requires-clause-there : goal.put_in_block-requires-clause-there
put_in_block-requires-clause-there c =
    let items = c.self.inside.pieces.items in
    let count = c.self.inside.count in
    let below : c.args.number < count =
    omega (arith, c.requires.there, length-view count (octets_of items), ap (λ (v : PiecesView). length v.blocks) c.self.view_is) in
    let room = subst (λ (v : PiecesView). IsMade v.made c.args.number) (sym c.self.view_is) c.requires.room in
    let some = has_octets count (octets_of items) c.self.invariant c.args.number below room in
    let whole = c.self.invariant.whole (c.args.number / 256) some in
    let read = was count items c.self.invariant c.args.number below c.index_mut.result.now c.index_mut.ensures.value in
    omega (arith, ap length c.as_mut_slice-piece.ensures.value, ap length read)

pub invariant_of-self : goal.invariant_of-self
invariant_of-self c =
    let items = c.self.inside.pieces.items in
    let count = c.self.inside.count in
    let n = c.args.number in
    let below : n < count =
    omega (arith, c.requires.there, length-view count (octets_of items), ap (λ (v : PiecesView). length v.blocks) c.self.view_is) in
    let room = subst (λ (v : PiecesView). IsMade v.made n) (sym c.self.view_is) c.requires.room in
    let some = has_octets count (octets_of items) c.self.invariant n below room in
    let old = c.index_mut.result.now in
    let read = was count items c.self.invariant n below old c.index_mut.ensures.value in
    let fits : 4096 * (n % 256) + 4096 ≤ length old.items =
    omega (arith, c.self.invariant.whole (n / 256) some, ap length read) in
    let size : length c.put_in_block.new.octets ≡ old.len = omega (arith, c.put_in_block.auto.octets, c.as_mut_slice-piece.ensures.len) in
    let from = overwritten c.args.at c.args.part.now (block (n % 256) old.items) in
    let is : (with_items old c.put_in_block.new.octets).items ≡ overwritten (4096 * (n % 256)) from old.items =
    with_items_is old c.put_in_block.new.octets size ∙ c.put_in_block.ensures
    ∙ ap (λ (l : List ℕ). overwritten (4096 * (n % 256)) (overwritten c.args.at c.args.part.now (block (n % 256) l)) l)
    c.as_mut_slice-piece.ensures.value in
    put_are count items c.self.invariant n below old c.index_mut.ensures.value (with_items old c.put_in_block.new.octets)
    from (length-written (n % 256) c.args.at c.args.part.now old.items fits c.requires.fits) room is

pub returns : goal.returns
returns c =
    let items = c.self.inside.pieces.items in
    let count = c.self.inside.count in
    let n = c.args.number in
    let below : n < count =
    omega (arith, c.requires.there, length-view count (octets_of items), ap (λ (v : PiecesView). length v.blocks) c.self.view_is) in
    let room = subst (λ (v : PiecesView). IsMade v.made n) (sym c.self.view_is) c.requires.room in
    let some = has_octets count (octets_of items) c.self.invariant n below room in
    let old = c.index_mut.result.now in
    let read = was count items c.self.invariant n below old c.index_mut.ensures.value in
    let fits : 4096 * (n % 256) + 4096 ≤ length old.items =
    omega (arith, c.self.invariant.whole (n / 256) some, ap length read) in
    let size : length c.put_in_block.new.octets ≡ old.len = omega (arith, c.put_in_block.auto.octets, c.as_mut_slice-piece.ensures.len) in
    let from = overwritten c.args.at c.args.part.now (block (n % 256) old.items) in
    let is : (with_items old c.put_in_block.new.octets).items ≡ overwritten (4096 * (n % 256)) from old.items =
    with_items_is old c.put_in_block.new.octets size ∙ c.put_in_block.ensures
    ∙ ap (λ (l : List ℕ). overwritten (4096 * (n % 256)) (overwritten c.args.at c.args.part.now (block (n % 256) l)) l)
    c.as_mut_slice-piece.ensures.value in
    let stood : block (n % 256) old.items ≡ get_or c.args.self.now.blocks n [] =
    sym (in_some old.items (n % 256) (omega arith))
    ∙ ap (λ (l : List ℕ). block_in l (n % 256)) read
    ∙ sym (get_or-view count n (octets_of items) below)
    ∙ ap (λ (v : PiecesView). get_or v.blocks n []) c.self.view_is in
    put_view count items c.self.invariant n below old c.index_mut.ensures.value (with_items old c.put_in_block.new.octets)
    from (length-written (n % 256) c.args.at c.args.part.now old.items fits c.requires.fits) room is
    ∙ ap (λ (v : PiecesView). record { blocks = set v.blocks n from; made = v.made }) c.self.view_is
    ∙ ap (λ (b : List ℕ). record {
      blocks = set c.args.self.now.blocks n (overwritten c.args.at c.args.part.now b);
      made = c.args.self.now.made;
    }) stood
