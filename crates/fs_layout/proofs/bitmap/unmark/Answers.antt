use Rattle.std.proofs.Common.{◌/◌, ◌%◌, List, ℕ, [], ◌∷◌, false, get_or, set, sym, subst, arith}
use Rattle.disk.specs.Image.{overwritten}
use Rattle.fs_layout.specs.Bits.{SetsBit}
use Rattle.fs_layout.specs.Marks.{SetsMark}
use Rattle.fs_layout.proofs.Marking.{sets_in_octet, sets_mark}
use Rattle.fs_layout.proofs.Puts.{on_put}
use Rattle.fs_layout.proofs.bitmap.unmark.Goals as goal

pub returns-clause-done : goal.returns-clause-done
returns-clause-done g c =
    let old = g.B.Blocks.blocks c.args.blocks.now in
    let new = g.B.Blocks.blocks c.put_at.new.self in
    let number = c.args.number in
    let bit = number % 32768 in
    let bitmap : List ℕ = get_or old (number / 32768) [] in
    on_put c.put_at.result (SetsMark number false old new) new old
    (set old (number / 32768) (overwritten (bit / 8) c.unset.new.octets bitmap)) c.put_at.ensures.put
    (λ is. subst (λ (bs : List (List ℕ)). SetsMark number false old bs) (sym is)
    (sets_mark number (number / 32768) false (overwritten (bit / 8) c.unset.new.octets bitmap) old (omega arith) (omega arith) (omega arith)
    (sets_in_octet bit false bitmap c.unset.new.octets (omega (arith, c.put_at.ensures.whole))
    (subst (λ (o : List ℕ). SetsBit (bit % 8) false (get_or o (bit / 8) 0 ∷ []) c.unset.new.octets) c.block.ensures.octets
    c.unset.ensures))))
