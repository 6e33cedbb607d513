use Rattle.std.proofs.Common.{◌≡◌, ◌+◌, ◌*◌, ◌/◌, arith}
use Rattle.std.proofs.lemmas.Result.{on_ok_weaker}
use Rattle.fs_inodes.specs.Growing.{PutsPointer}
use Rattle.fs_inodes.specs.Shrinking.{DropsPointer, DropsTable}
use Rattle.fs_inodes.proofs.Untabling.{drops_first, drops_within}
use Rattle.fs_inodes.proofs.shrinking.drop_pointer.Goals as goal

pub returns-then-i-eq-DIRECT_POINTERS-clause-done : goal.returns-then-i-eq-DIRECT_POINTERS-clause-done
returns-then-i-eq-DIRECT_POINTERS-clause-done g c =
    let old = g.B.Blocks.blocks c.args.blocks.now in
    let new = g.B.Blocks.blocks c.drop_table.new.blocks in
    let i = c.args.i in
    let is : i ≡ 1024 * (i / 1024) + 10 = omega (arith, c.if-i-eq-DIRECT_POINTERS.true) in
    on_ok_weaker {P = DropsTable (i / 1024) c.args.inode.now c.drop_table.new.inode old new}
    {Q = DropsPointer i c.args.inode.now c.drop_table.new.inode old new} c.drop_table.result
    (λ drop. drops_first i c.args.inode.now c.drop_table.new.inode old new c.requires.names (i / 1024) is c.requires.last drop)
    c.drop_table.ensures.done

pub returns-clause-done : goal.returns-clause-done
returns-clause-done g c =
    let old = g.B.Blocks.blocks c.args.blocks.now in
    let new = g.B.Blocks.blocks c.put_pointer.new.blocks in
    let i = c.args.i in
    on_ok_weaker {P = PutsPointer i 0 c.args.inode.now c.put_pointer.new.inode old new}
    {Q = DropsPointer i c.args.inode.now c.put_pointer.new.inode old new} c.put_pointer.result
    (λ puts. drops_within i c.args.inode.now c.put_pointer.new.inode old new c.requires.names c.if-i-eq-DIRECT_POINTERS.false puts)
    c.put_pointer.ensures.done
