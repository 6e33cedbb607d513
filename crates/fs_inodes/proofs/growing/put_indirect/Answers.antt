use Rattle.std.proofs.Common.{◌≡◌, ℕ, ◌-◌, ◌*◌, List, [], get_or, set, refl, sym, subst, arith}
use Rattle.std.proofs.lemmas.Result.{on_ok_weaker}
use Rattle.byteorder.specs.Endian.{little_bytes}
use Rattle.disk.specs.Image.{overwritten}
use Rattle.fs_inodes.specs.Growing.{PutsIndirect}
use Rattle.fs_inodes.proofs.Putting.{puts_first, puts_later}
use Rattle.fs_inodes.proofs.growing.put_indirect.Goals as goal

pub returns-then-p-eq0-clause-done : goal.returns-then-p-eq0-clause-done
returns-then-p-eq0-clause-done g c =
    let blocks = g.B.Blocks.blocks c.args.blocks.now in
    subst (λ (q : ℕ). PutsIndirect q c.args.number c.args.inode.now c.put32.new.octets blocks blocks) (sym c.if-p-eq0.true)
    (subst (λ (o : List ℕ). PutsIndirect 0 c.args.number c.args.inode.now o blocks blocks) (sym c.put32.ensures)
    (puts_first c.args.number c.args.inode.now c.requires.whole (omega arith) blocks))

pub returns-clause-done : goal.returns-clause-done
returns-clause-done g c =
    let old = g.B.Blocks.blocks c.args.blocks.now in
    let new = g.B.Blocks.blocks c.put_number.new.blocks in
    let inode = c.args.inode.now in
    let p = c.args.p in
    let double = c.number32-double.result in
    let at = c.number32-double.ensures in
    let block : List ℕ = get_or old double [] in
    on_ok_weaker
    {P = new ≡ set old double (overwritten (4 * (p - 1)) (little_bytes 4 c.args.number) block)}
    {Q = PutsIndirect p c.args.number inode inode old new} c.put_number.result
    (λ is. subst (λ (bs : List (List ℕ)). PutsIndirect p c.args.number inode inode old bs) (sym is)
    (puts_later c.args.number inode c.requires.whole (omega arith) p old block
    (omega (arith, c.if-p-eq0.false)) c.requires.few double at
    (omega (arith, at, (c.requires.double (omega (arith, c.if-p-eq0.false))).0))
    (omega (arith, at, (c.requires.double (omega (arith, c.if-p-eq0.false))).1)) (c.requires.apart (omega (arith, c.if-p-eq0.false)))
    refl c.put_number.ensures.whole))
    c.put_number.ensures.done
