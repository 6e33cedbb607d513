use Rattle.std.proofs.Common.{◌≡◌, ℕ, ◌+◌, ◌*◌, ◌/◌, subst, arith}
use Rattle.std.proofs.lemmas.Result.{on_ok_weaker}
use Rattle.model.specs.Files.{indirect_for}
use Rattle.fs_inodes.specs.Growing.{NamesBlocks, inode_entry}
use Rattle.fs_inodes.proofs.Tables.{adds_no_table, adds_table, double_there, double_apart, zeros_names}
use Rattle.fs_inodes.proofs.growing.add_table.Goals as goal

pub returns-then-i-ne-DIRECT_POINTERS-clause-done : goal.returns-then-i-ne-DIRECT_POINTERS-clause-done
returns-then-i-ne-DIRECT_POINTERS-clause-done g c =
    adds_no_table c.args.i c.args.inode.now (g.B.Blocks.blocks c.args.blocks.now) c.if-i-ne-DIRECT_POINTERS.true c.requires.names

pub add_double-requires-clause-names : goal.add_double-requires-clause-names
add_double-requires-clause-names g c =
    let old = g.B.Blocks.blocks c.args.blocks.now in
    let mid = g.B.Blocks.blocks c.take_zeros.new.blocks in
    let i = c.args.i in
    let count : indirect_for i ≡ i / 1024 = omega (arith, c.if-i-ne-DIRECT_POINTERS.false) in
    subst (λ (n : ℕ). NamesBlocks n (inode_entry mid c.args.inode.now) mid) count
    (zeros_names (indirect_for i) c.in_ok-table.table c.args.inode.now old mid c.requires.count_few c.requires.names
    c.in_ok-table.ensures.done)

pub put_indirect-requires-clause-double : goal.put_indirect-requires-clause-double
put_indirect-requires-clause-double g c =
    let old = g.B.Blocks.blocks c.args.blocks.now in
    let mid = g.B.Blocks.blocks c.take_zeros.new.blocks in
    let i = c.args.i in
    let is : i ≡ 1024 * (i / 1024) + 10 = omega (arith, c.if-i-ne-DIRECT_POINTERS.false) in
    double_there i (i / 1024) c.in_ok-table.table c.args.inode.now c.add_double.new.inode old mid
    (g.B.Blocks.blocks c.add_double.new.blocks) c.requires.count_few c.requires.reserved is c.requires.names c.in_ok-table.ensures.done
    c.in_ok-add_double.ensures.done

pub put_indirect-requires-clause-apart : goal.put_indirect-requires-clause-apart
put_indirect-requires-clause-apart g c =
    let old = g.B.Blocks.blocks c.args.blocks.now in
    let mid = g.B.Blocks.blocks c.take_zeros.new.blocks in
    let i = c.args.i in
    let is : i ≡ 1024 * (i / 1024) + 10 = omega (arith, c.if-i-ne-DIRECT_POINTERS.false) in
    double_apart i (i / 1024) c.in_ok-table.table c.args.inode.now c.add_double.new.inode old mid
    (g.B.Blocks.blocks c.add_double.new.blocks) c.requires.count_few c.requires.reserved is c.requires.names c.in_ok-table.ensures.done
    c.in_ok-add_double.ensures.done

pub returns-clause-done : goal.returns-clause-done
returns-clause-done g c =
    let old = g.B.Blocks.blocks c.args.blocks.now in
    let mid = g.B.Blocks.blocks c.take_zeros.new.blocks in
    let then = g.B.Blocks.blocks c.add_double.new.blocks in
    let new = g.B.Blocks.blocks c.put_indirect.new.blocks in
    let i = c.args.i in
    let inode = c.args.inode.now in
    let inode1 = c.add_double.new.inode in
    let inode2 = c.put_indirect.new.inode in
    let is : i ≡ 1024 * (i / 1024) + 10 = omega (arith, c.if-i-ne-DIRECT_POINTERS.false) in
    on_ok_weaker c.put_indirect.result
    (λ puts. adds_table i (i / 1024) c.in_ok-table.table inode inode1 old mid then c.requires.count_few c.requires.reserved is
    c.requires.names c.in_ok-table.ensures.done c.in_ok-add_double.ensures.done inode2 new puts)
    c.put_indirect.ensures.done
