use Rattle.std.proofs.Common.{◌≡◌, List, [], ℕ, get_or, replicate, set, ◌∙◌, ap, arith}
use Rattle.byteorder.specs.Endian.{little_bytes}
use Rattle.disk.specs.Image.{overwritten}
use Rattle.fs_layout.proofs.Puts.{on_put}
use Rattle.fs_inodes.proofs.Spans.{overwritten_all}
use Rattle.fs_inodes.proofs.pieces.put_number.Goals as goal

pub returns-clause-done : goal.returns-clause-done
returns-clause-done g c =
    let old = g.B.Blocks.blocks c.args.blocks.now in
    let new = g.B.Blocks.blocks c.put_at.new.self in
    let number = c.args.block in
    let at = c.args.at in
    let block : List ℕ = get_or old number [] in
    let octets : c.put32.new.octets ≡ little_bytes 4 c.args.number = c.put32.ensures
    ∙ overwritten_all (little_bytes 4 c.args.number) (replicate 4 0) (omega arith) in
    on_put c.put_at.result (new ≡ set old number (overwritten at (little_bytes 4 c.args.number) block)) new old
    (set old number (overwritten at c.put32.new.octets block)) c.put_at.ensures.put
    (λ is. is ∙ ap (λ (l : List ℕ). set old number (overwritten at l block)) octets)
