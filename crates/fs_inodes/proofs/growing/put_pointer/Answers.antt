use Rattle.std.proofs.Common.{◌≡◌, ℕ, List, [], ◌-◌, ◌*◌, ◌%◌, get_or, set, refl, sym, subst, arith}
use Rattle.std.proofs.lemmas.Result.{on_ok_weaker}
use Rattle.byteorder.specs.Endian.{little_bytes}
use Rattle.disk.specs.Image.{overwritten}
use Rattle.fs_inodes.specs.Growing.{PutsPointer}
use Rattle.fs_inodes.proofs.Putting.{puts_direct, puts_indirect}
use Rattle.fs_inodes.proofs.growing.put_pointer.Goals as goal

pub returns-then-i-lt-DIRECT_POINTERS-clause-done : goal.returns-then-i-lt-DIRECT_POINTERS-clause-done
returns-then-i-lt-DIRECT_POINTERS-clause-done g c =
    let blocks = g.B.Blocks.blocks c.args.blocks.now in
    subst (λ (o : List ℕ). PutsPointer c.args.i c.args.number c.args.inode.now o blocks blocks) (sym c.put32.ensures)
    (puts_direct c.args.i c.args.number c.args.inode.now c.requires.whole (omega arith) blocks c.if-i-lt-DIRECT_POINTERS.true)

pub returns-clause-done : goal.returns-clause-done
returns-clause-done g c =
    let old = g.B.Blocks.blocks c.args.blocks.now in
    let new = g.B.Blocks.blocks c.put_number.new.blocks in
    let inode = c.args.inode.now in
    let i = c.args.i in
    let high = c.if-i-lt-DIRECT_POINTERS.false in
    let indirect = c.indirect_at-indirect.result in
    let at = c.indirect_at-indirect.ensures in
    let block : List ℕ = get_or old indirect [] in
    on_ok_weaker
    {P = new ≡ set old indirect (overwritten (4 * ((i - 10) % 1024)) (little_bytes 4 c.args.number) block)}
    {Q = PutsPointer i c.args.number inode inode old new} c.put_number.result
    (λ is. subst (λ (bs : List (List ℕ)). PutsPointer i c.args.number inode inode old bs) (sym is)
    (puts_indirect i c.args.number inode c.requires.whole (omega arith) old block high indirect at
    (omega (arith, at, (c.requires.indirect high).0)) (omega (arith, at, (c.requires.indirect high).1))
    (c.requires.apart high) refl c.put_number.ensures.whole))
    c.put_number.ensures.done
