use Rattle.std.proofs.Common.{[], ◌∷◌, arith}
use Rattle.fs_inodes.proofs.Attaching.{adds_block, double_there, free_mid, names_mid, table_apart, table_there}
use Rattle.fs_inodes.proofs.Taking.{none_still, takes_keep, takes_one}
use Rattle.fs_inodes.proofs.growing.add_block.Goals as goal

pub add_table-requires-clause-reserved : goal.add_table-requires-clause-reserved
add_table-requires-clause-reserved g c b low =
    let old = g.B.Blocks.blocks c.args.blocks.now in
    let mid = g.B.Blocks.blocks c.take_block.new.blocks in
    let number = c.in_ok-number.number in
    takes_keep (number ∷ []) old mid (takes_one number old mid c.requires.count_few c.in_ok-number.ensures.taken) b
    (omega (arith, low, c.in_ok-number.ensures.taken.sets.count))
    (c.requires.reserved b (omega (arith, low, c.in_ok-number.ensures.taken.sets.count)))

pub add_table-requires-clause-names : goal.add_table-requires-clause-names
add_table-requires-clause-names g c =
    names_mid c.args.i c.in_ok-number.number c.args.inode.now (g.B.Blocks.blocks c.args.blocks.now)
    (g.B.Blocks.blocks c.take_block.new.blocks) c.requires.count_few c.in_ok-number.ensures.taken c.requires.names

pub add_table-requires-clause-free : goal.add_table-requires-clause-free
add_table-requires-clause-free g c =
    free_mid c.args.i c.in_ok-number.number c.args.inode.now (g.B.Blocks.blocks c.args.blocks.now)
    (g.B.Blocks.blocks c.take_block.new.blocks) c.requires.count_few c.in_ok-number.ensures.taken c.requires.names c.requires.free

pub add_table-requires-clause-none : goal.add_table-requires-clause-none
add_table-requires-clause-none g c =
    let old = g.B.Blocks.blocks c.args.blocks.now in
    let mid = g.B.Blocks.blocks c.take_block.new.blocks in
    let number = c.in_ok-number.number in
    let taken = c.in_ok-number.ensures.taken in
    none_still c.args.from (number ∷ []) old mid c.requires.count_few taken.sets.count (takes_one number old mid c.requires.count_few taken)
    c.requires.none

pub put_pointer-requires-clause-double : goal.put_pointer-requires-clause-double
put_pointer-requires-clause-double g c =
    double_there c.args.i c.in_ok-number.number c.args.inode.now (g.B.Blocks.blocks c.args.blocks.now)
    (g.B.Blocks.blocks c.take_block.new.blocks) c.requires.count_few c.in_ok-number.ensures.taken c.requires.names
    c.add_table.new.inode (g.B.Blocks.blocks c.add_table.new.blocks) c.in_ok-add_table.ensures.done

pub put_pointer-requires-clause-indirect : goal.put_pointer-requires-clause-indirect
put_pointer-requires-clause-indirect g c =
    table_there c.args.i c.in_ok-number.number c.args.inode.now (g.B.Blocks.blocks c.args.blocks.now)
    (g.B.Blocks.blocks c.take_block.new.blocks) c.requires.count_few c.in_ok-number.ensures.taken c.requires.names
    c.add_table.new.inode (g.B.Blocks.blocks c.add_table.new.blocks) c.in_ok-add_table.ensures.done

pub put_pointer-requires-clause-apart : goal.put_pointer-requires-clause-apart
put_pointer-requires-clause-apart g c =
    table_apart c.args.i c.in_ok-number.number c.args.inode.now (g.B.Blocks.blocks c.args.blocks.now)
    (g.B.Blocks.blocks c.take_block.new.blocks) c.requires.count_few c.in_ok-number.ensures.taken c.requires.names
    c.add_table.new.inode (g.B.Blocks.blocks c.add_table.new.blocks) c.in_ok-add_table.ensures.done

pub returns-clause-done : goal.returns-clause-done
returns-clause-done g c =
    adds_block c.args.i c.in_ok-number.number c.args.inode.now (g.B.Blocks.blocks c.args.blocks.now)
    (g.B.Blocks.blocks c.take_block.new.blocks) c.requires.count_few c.in_ok-number.ensures.taken c.requires.names
    c.add_table.new.inode (g.B.Blocks.blocks c.add_table.new.blocks) c.in_ok-add_table.ensures.done c.put_pointer.new.inode
    (g.B.Blocks.blocks c.put_pointer.new.blocks) c.in_ok-put_pointer.ensures.done
