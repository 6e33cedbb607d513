use Rattle.std.proofs.Common.{ℕ, false, List, sym, subst, arith}
use Rattle.std.proofs.lemmas.Result.{on_ok_weaker}
use Rattle.model.specs.Volume.{number_at}
use Rattle.model.specs.Files.{indirect_pointer}
use Rattle.fs_layout.specs.Marks.{SetsMark}
use Rattle.fs_inodes.specs.Growing.{PutsIndirect, inode_entry}
use Rattle.fs_inodes.specs.Shrinking.{DropsTable}
use Rattle.fs_inodes.proofs.Untabling.{drops_double, drops_table}
use Rattle.fs_inodes.proofs.shrinking.drop_table.Goals as goal

pub indirect_at-table-requires-clause-double : goal.indirect_at-table-requires-clause-double
indirect_at-table-requires-clause-double g c some =
    let double = c.requires.names.double (omega (arith, some)) in
    ((λ none. absurd (let high = double.some in omega (arith, high, none))), double.there)

pub unmark-requires-clause-there : goal.unmark-requires-clause-there
unmark-requires-clause-there g c =
    let there = (c.requires.names.there c.args.p (omega arith)).there in
    let is = c.indirect_at-table.ensures in
    omega (arith, there, is)

pub returns-then-p-ne1-clause-done : goal.returns-then-p-ne1-clause-done
returns-then-p-ne1-clause-done g c =
    let old = g.B.Blocks.blocks c.args.blocks.now in
    let mid = g.B.Blocks.blocks c.unmark.new.blocks in
    let new = g.B.Blocks.blocks c.put_indirect.new.blocks in
    let inode = c.args.inode.now in
    let p = c.args.p in
    let first : SetsMark (indirect_pointer (inode_entry old inode) p) false old mid =
    subst (λ (n : ℕ). SetsMark n false old mid) c.indirect_at-table.ensures c.in_ok-unmark.ensures.done in
    on_ok_weaker {P = PutsIndirect p 0 inode c.put_indirect.new.inode mid new}
    {Q = DropsTable p inode c.put_indirect.new.inode old new} c.put_indirect.result
    (λ puts. drops_table p inode old mid c.requires.count_few c.requires.whole c.requires.names first c.put_indirect.new.inode new
    c.if-p-ne1.true puts)
    c.put_indirect.ensures.done

pub returns-clause-done : goal.returns-clause-done
returns-clause-done g c =
    let old = g.B.Blocks.blocks c.args.blocks.now in
    let mid = g.B.Blocks.blocks c.unmark.new.blocks in
    let then = g.B.Blocks.blocks c.unmark-2.new.blocks in
    let inode = c.args.inode.now in
    let p = c.args.p in
    let first : SetsMark (indirect_pointer (inode_entry old inode) p) false old mid =
    subst (λ (n : ℕ). SetsMark n false old mid) c.indirect_at-table.ensures c.in_ok-unmark.ensures.done in
    let second : SetsMark (number_at 56 4 inode) false mid then =
    subst (λ (n : ℕ). SetsMark n false mid then) c.number32.ensures c.in_ok-unmark-2.ensures.done in
    subst (λ (o : List ℕ). DropsTable p inode o old then) (sym c.put32.ensures)
    (drops_double p inode old mid c.requires.count_few c.requires.whole c.requires.names first then c.if-p-ne1.false second)
