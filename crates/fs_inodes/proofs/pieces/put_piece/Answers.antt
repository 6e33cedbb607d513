use Rattle.std.proofs.Common.{◌≡◌, List, [], ℕ, get_or, replicate, set, take, refl, sym, ◌∙◌, ap}
use Rattle.std.proofs.lemmas.List.{length-replicate}
use Rattle.std.proofs.lemmas.Result.{on_ok_weaker}
use Rattle.disk.specs.Image.{overwritten}
use Rattle.fs_layout.proofs.Puts.{on_put}
use Rattle.fs_inodes.specs.Growing.{PutsPiece}
use Rattle.fs_inodes.proofs.pieces.put_piece.Goals as goal

-- a new block
pub returns-then-within-eq0-clause-done : goal.returns-then-within-eq0-clause-done
returns-then-within-eq0-clause-done g c =
    let old = g.B.Blocks.blocks c.args.blocks.now in
    let new = g.B.Blocks.blocks c.put_new.new.blocks in
    let number = c.args.number in
    let piece = c.args.piece.now in
    let zeros : List ℕ = replicate 4096 0 in
    let none = c.if-within-eq0.true in
    on_ok_weaker {P = new ≡ set old number (overwritten 0 piece zeros)} {Q = PutsPiece number c.args.within piece old new} c.put_new.result
    (λ is. record {
      block = zeros;
      whole = length-replicate {A = ℕ} 4096 0;
      front = ap (λ (n : ℕ). take n zeros) none ∙ sym (ap (λ (n : ℕ). take n (get_or old number [])) none);
      puts = is ∙ ap (λ (n : ℕ). set old number (overwritten n piece zeros)) (sym none);
    })
    c.put_new.ensures.done

-- a block of which the piece leaves the front
pub returns-clause-done : goal.returns-clause-done
returns-clause-done g c =
    let old = g.B.Blocks.blocks c.args.blocks.now in
    let new = g.B.Blocks.blocks c.put_at.new.self in
    let number = c.args.number in
    let block : List ℕ = get_or old number [] in
    on_put c.put_at.result (PutsPiece number c.args.within c.args.piece.now old new) new old
    (set old number (overwritten c.args.within c.args.piece.now block)) c.put_at.ensures.put
    (λ is. record { block = block; whole = c.put_at.ensures.whole; front = refl; puts = is })
