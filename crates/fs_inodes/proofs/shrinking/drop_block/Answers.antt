use Rattle.std.proofs.Common.{length, ◌≡◌, ◌<◌, ◌≤◌, ℕ, ◌+◌, ◌-◌, ◌*◌, ◌/◌, List, [], sym, ◌∙◌, ap, subst, arith, OnOk}
use Rattle.std.proofs.lemmas.Result.{on_ok_weaker}
use Rattle.byteorder.specs.Endian.{little_bytes}
use Rattle.disk.specs.Image.{overwritten}
use Rattle.model.specs.Volume.{number_at}
use Rattle.model.specs.Files.{FileEntry, entry, entry_of, indirect_for, indirect_pointer, inode_of, pointer}
use Rattle.model.specs.Files.{bitmap_blocks}
use Rattle.model.proofs.Owning.{owns_pointer}
use Rattle.fs_layout.specs.Blocks.{IsThere, PutsRecord}
use Rattle.fs_inodes.specs.Growing.{NamesBlocks, inode_entry}
use Rattle.fs_inodes.specs.Shrinking.{DropsPointer}
use Rattle.fs_inodes.proofs.Dropping.{DropsLast, drops_last}
use Rattle.fs_inodes.proofs.Named.{double_is_there, file_names, table_is_there}
use Rattle.fs_inodes.proofs.shrinking.drop_block.Given.{Over}
use Rattle.fs_inodes.proofs.shrinking.drop_block.Goals as goal
use Rattle.fs_inodes.proofs.shrinking.drop_block.Goals.{After-pointer_at-number, After-put_inode}

number_is : (g : Over) (c : After-pointer_at-number g)
    → c.pointer_at-number.result ≡ pointer (entry c.args.inodes (g.B.Blocks.blocks c.args.blocks.now) c.args.at) c.args.last
number_is g c = c.pointer_at-number.ensures
    ∙ ap (λ (o : List ℕ). pointer (entry_of (g.B.Blocks.blocks c.args.blocks.now) o []) c.args.last) c.get_inode.ensures

pub pointer_at-number-requires-clause-double : goal.pointer_at-number-requires-clause-double
pointer_at-number-requires-clause-double g c =
    let blocks = g.B.Blocks.blocks c.args.blocks.now in
    subst (λ (o : List ℕ). 1034 ≤ c.args.last → IsThere (number_at 56 4 o) blocks) (sym c.get_inode.ensures)
    (double_is_there c.args.inodes c.args.at blocks c.requires.room c.requires.rule c.requires.below c.requires.file c.args.last
    (omega (arith, c.requires.counted)))

pub pointer_at-number-requires-clause-indirect : goal.pointer_at-number-requires-clause-indirect
pointer_at-number-requires-clause-indirect g c =
    let blocks = g.B.Blocks.blocks c.args.blocks.now in
    subst (λ (o : List ℕ). 10 ≤ c.args.last → IsThere (indirect_pointer (entry_of blocks o []) ((c.args.last - 10) / 1024)) blocks)
    (sym c.get_inode.ensures)
    (table_is_there c.args.inodes c.args.at blocks c.requires.room c.requires.rule c.requires.below c.requires.file c.args.last
    (omega (arith, c.requires.counted)))

pub drop_pointer-requires-clause-names : goal.drop_pointer-requires-clause-names
drop_pointer-requires-clause-names g c =
    let blocks = g.B.Blocks.blocks c.args.blocks.now in
    subst (λ (o : List ℕ). NamesBlocks (indirect_for (c.args.last + 1)) (inode_entry blocks o) blocks) (sym c.get_inode.ensures)
    (subst (λ (m : ℕ). NamesBlocks (indirect_for m) (inode_entry blocks (inode_of blocks c.args.at)) blocks) (sym c.requires.counted)
    (file_names c.args.inodes c.args.at blocks c.requires.room c.requires.rule c.requires.below c.requires.file))

pub drop_pointer-requires-clause-last : goal.drop_pointer-requires-clause-last
drop_pointer-requires-clause-last g c =
    let blocks = g.B.Blocks.blocks c.args.blocks.now in
    subst (λ (o : List ℕ). (j : ℕ) → c.args.last < j → pointer (inode_entry blocks o) j ≡ 0) (sym c.get_inode.ensures)
    (λ j above. c.requires.file.no_other_pointer j (omega (arith, above, c.requires.counted)))

pub unmark-requires-clause-there : goal.unmark-requires-clause-there
unmark-requires-clause-there g c =
    let blocks = g.B.Blocks.blocks c.args.blocks.now in
    let e : FileEntry = entry c.args.inodes blocks c.args.at in
    let is = number_is g (goal.at.unmark-requires-clause-there g c).After-pointer_at-number in
    let inside = (c.requires.rule.within c.args.at (pointer e c.args.last) c.requires.below
    (owns_pointer e c.args.last (omega (arith, c.requires.counted)))).1 in
    omega (arith, is, inside, c.in_ok-drop_pointer.ensures.done.count)

-- the shorter file, and the blocks that change
done : (g : Over) (c : After-put_inode g) → OnOk c.put_inode.result (DropsLast c.args.inodes c.args.at c.args.last
    (g.B.Blocks.blocks c.args.blocks.now) (g.B.Blocks.blocks c.put_inode.new.blocks))
done g c =
    let old = g.B.Blocks.blocks c.args.blocks.now in
    let mid = g.B.Blocks.blocks c.drop_pointer.new.blocks in
    let later = g.B.Blocks.blocks c.unmark.new.blocks in
    let new = g.B.Blocks.blocks c.put_inode.new.blocks in
    let at = c.args.at in
    let last = c.args.last in
    let e : FileEntry = entry c.args.inodes old at in
    let inode1 = c.drop_pointer.new.inode in
    let is = number_is g (goal.at.returns-clause-touches g c).After-pointer_at-number in
    let drop : DropsPointer last (inode_of old at) inode1 old mid =
    subst (λ (o : List ℕ). DropsPointer last o inode1 old mid) c.get_inode.ensures c.in_ok-drop_pointer.ensures.done in
    let times : last * 4096 ≡ 4096 * last = omega arith in
    let octets : c.put64.new.octets ≡ overwritten 4 (little_bytes 8 (4096 * last)) inode1 = c.put64.ensures
    ∙ ap (λ (n : ℕ). overwritten 4 (little_bytes 8 n) inode1) times in
    on_ok_weaker {P = PutsRecord (bitmap_blocks (length later)) at c.put64.new.octets later new}
    {Q = DropsLast c.args.inodes at last old new} c.put_inode.result
    (λ put. drops_last c.args.inodes at last c.pointer_at-number.result inode1 old mid later new c.requires.room c.requires.rule
    c.requires.below
    c.requires.file c.requires.counted is drop c.in_ok-unmark.ensures.done
    (subst (λ (o : List ℕ). PutsRecord (bitmap_blocks (length later)) at o later new) octets put))
    c.put_inode.ensures.done

pub returns-clause-done : goal.returns-clause-done
returns-clause-done g c = on_ok_weaker c.put_inode.result (λ all. all.shorter) (done g c)

pub returns-clause-none_taken : goal.returns-clause-none_taken
returns-clause-none_taken g c = on_ok_weaker c.put_inode.result (λ all. all.none_taken) (done g c)

pub returns-clause-touches : goal.returns-clause-touches
returns-clause-touches g c = on_ok_weaker c.put_inode.result (λ all. all.touches) (done g c)
