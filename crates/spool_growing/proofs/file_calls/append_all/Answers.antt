use Rattle.std.proofs.Common.{◌≡◌, ◌∙◌, ◌≤◌, sym, subst, length, ℕ, List}
use Rattle.std.specs.Prelude.{Some, slice_get}
use Rattle.std.proofs.lemmas.Option.{slice_get_read}
use Rattle.fs.specs.Touches.{Touches, touched_by_growth}
use Rattle.fs.specs.Calls.{IsFileAt}
use Rattle.model.specs.Files.{free_blocks, table}
use Rattle.spool_growing.specs.Calls.{AppendsAt, MayGrow, blocks_for_more}
use Rattle.spool_growing.proofs.Pieces.{may_still, none_yet, one_more, still_free, touches_none, touches_one_more}
use Rattle.spool_growing.proofs.file_calls.append_all.Goals as goal

pub loop-piece-init : goal.loop-piece-init
loop-piece-init g c =
    let old = g.B.Blocks.blocks c.args.blocks.now in
    record {
      appended = none_yet c.args.inodes c.args.pieces.now old c.requires.room c.requires.rule;
      touches = touches_none old;
      known = c.requires.known;
      kept = Rattle.std.proofs.Common.refl;
    }

pub append_to-requires-clause-there : goal.append_to-requires-clause-there
append_to-requires-clause-there g c =
    let old = g.B.Blocks.blocks c.args.blocks.now in
    let mid = g.B.Blocks.blocks c.loop-piece.blocks in
    let p = c.piece-item.result in
    let n = c.loop-piece.piece-index in
    let at : slice_get c.args.pieces.now n ≡ Some p =
    slice_get_read c.args.pieces.now (length c.args.pieces.now) n p Rattle.std.proofs.Common.refl c.loop-piece-test.true c.piece-item.is
    in
    subst (λ (o : List ℕ). MayGrow c.args.inodes p.at (length o) mid) (sym c.deref.ensures.value)
    (may_still c.args.inodes c.args.pieces.now old mid n p c.requires.there c.loop-piece.invariant.appended at c.loop-piece-test.true)

pub append_to-requires-clause-free : goal.append_to-requires-clause-free
append_to-requires-clause-free g c =
    let old = g.B.Blocks.blocks c.args.blocks.now in
    let mid = g.B.Blocks.blocks c.loop-piece.blocks in
    let p = c.piece-item.result in
    let n = c.loop-piece.piece-index in
    let at : slice_get c.args.pieces.now n ≡ Some p =
    slice_get_read c.args.pieces.now (length c.args.pieces.now) n p Rattle.std.proofs.Common.refl c.loop-piece-test.true c.piece-item.is
    in
    subst (λ (o : List ℕ). blocks_for_more (length o) ≤ free_blocks mid) (sym c.deref.ensures.value)
    (still_free c.args.inodes c.args.pieces.now old mid n p c.requires.there c.loop-piece.invariant.appended at c.loop-piece-test.true
    c.requires.free)

pub loop-piece-preserved : goal.loop-piece-preserved
loop-piece-preserved g c =
    let old = g.B.Blocks.blocks c.args.blocks.now in
    let mid = g.B.Blocks.blocks c.loop-piece.blocks in
    let new = g.B.Blocks.blocks c.append_to.new.blocks in
    let p = c.piece-item.result in
    let n = c.loop-piece.piece-index in
    let at : slice_get c.args.pieces.now n ≡ Some p =
    slice_get_read c.args.pieces.now (length c.args.pieces.now) n p Rattle.std.proofs.Common.refl c.loop-piece-test.true c.piece-item.is
    in
    let appended : AppendsAt c.args.inodes p.at p.octets.items mid new =
    subst (λ (o : List ℕ). AppendsAt c.args.inodes p.at o mid new) c.deref.ensures.value c.in_ok-append_to.ensures.appended in
    let touched : (name content : List ℕ) → IsFileAt (table c.args.inodes mid) p.at name content
    → Touches (touched_by_growth (length content) (length p.octets.items)) mid new =
    subst (λ (o : List ℕ). (name content : List ℕ) → IsFileAt (table c.args.inodes mid) p.at name content
    → Touches (touched_by_growth (length content) (length o)) mid new) c.deref.ensures.value c.in_ok-append_to.ensures.touches in
    record {
      appended = one_more c.args.inodes c.args.pieces.now old mid n p c.requires.there c.loop-piece.invariant.appended
          at c.loop-piece-test.true new appended;
      touches = touches_one_more c.args.inodes c.args.pieces.now old mid n p c.requires.there c.loop-piece.invariant.appended
          at c.loop-piece-test.true new c.loop-piece.invariant.touches touched;
      known = c.in_ok-append_to.ensures.known;
      kept = c.in_ok-append_to.ensures.kept ∙ c.loop-piece.invariant.kept;
    }
