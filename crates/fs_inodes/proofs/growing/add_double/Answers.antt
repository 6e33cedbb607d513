use Rattle.std.proofs.Common.{ℕ, List, sym, subst}
use Rattle.fs_inodes.specs.Growing.{AddsDouble, NamesBlocks, inode_entry}
use Rattle.fs_inodes.proofs.Tables.{adds_no_double, adds_double}
use Rattle.fs_inodes.proofs.growing.add_double.Goals as goal

pub returns-then-p-ne1-clause-done : goal.returns-then-p-ne1-clause-done
returns-then-p-ne1-clause-done g c = adds_no_double c.args.p c.args.inode.now (g.B.Blocks.blocks c.args.blocks.now) c.if-p-ne1.true

pub returns-clause-done : goal.returns-clause-done
returns-clause-done g c =
    let old = g.B.Blocks.blocks c.args.blocks.now in
    let new = g.B.Blocks.blocks c.take_zeros.new.blocks in
    let inode = c.args.inode.now in
    let double = c.in_ok-double.double in
    subst (λ (q : ℕ). AddsDouble q inode c.put32.new.octets old new) (sym c.if-p-ne1.false)
    (subst (λ (o : List ℕ). AddsDouble 1 inode o old new) (sym c.put32.ensures)
    (adds_double double inode old new c.requires.whole c.requires.count_few c.requires.reserved
    (subst (λ (q : ℕ). NamesBlocks q (inode_entry old inode) old) c.if-p-ne1.false c.requires.names) c.in_ok-double.ensures.done))
