use Rattle.std.proofs.Common.{◌≡◌, List, ℕ, replicate, set, sym, ◌∙◌, ap, arith}
use Rattle.std.proofs.lemmas.List.{length-replicate}
use Rattle.disk.specs.Image.{overwritten}
use Rattle.fs_layout.proofs.Puts.{on_put}
use Rattle.fs_inodes.proofs.Spans.{overwritten_all}
use Rattle.fs_inodes.proofs.pieces.put_new.Goals as goal

-- a piece that leaves room for zeros
pub returns-then-piece-lt-BLOCK_SIZE-clause-done : goal.returns-then-piece-lt-BLOCK_SIZE-clause-done
returns-then-piece-lt-BLOCK_SIZE-clause-done g c =
    let old = g.B.Blocks.blocks c.args.blocks.now in
    let new = g.B.Blocks.blocks c.put.new.self in
    let number = c.args.number in
    on_put c.put.result (new ≡ set old number (overwritten 0 c.args.piece.now (replicate 4096 0))) new old
    (set old number c.put_part.new.octets) c.put.ensures.put
    (λ is. is ∙ ap (λ (l : List ℕ). set old number l) c.put_part.ensures)

-- a whole block
pub returns-clause-done : goal.returns-clause-done
returns-clause-done g c =
    let old = g.B.Blocks.blocks c.args.blocks.now in
    let new = g.B.Blocks.blocks c.put-2.new.self in
    let number = c.args.number in
    let piece = c.args.piece.now in
    let all : overwritten 0 piece (replicate 4096 0) ≡ piece =
    overwritten_all piece (replicate 4096 0) (omega (arith, length-replicate {A = ℕ} 4096 0)) in
    on_put c.put-2.result (new ≡ set old number (overwritten 0 piece (replicate 4096 0))) new old (set old number piece)
    c.put-2.ensures.put (λ is. is ∙ ap (λ (l : List ℕ). set old number l) (sym all))
