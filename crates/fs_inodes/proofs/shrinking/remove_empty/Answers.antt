use Rattle.std.proofs.Common.{◌≡◌, ◌∙◌, length, ◌+◌, ◌/◌, None, set, replicate, [], ◌∷◌}
use Rattle.std.proofs.lemmas.Result.{on_ok_weaker}
use Rattle.model.specs.Files.{table}
use Rattle.model.specs.Files.{bitmap_blocks}
use Rattle.fs_layout.specs.Blocks.{PutsRecord}
use Rattle.fs_layout.specs.Table.{Makes}
use Rattle.fs_inodes.proofs.Removing.{removes}
use Rattle.fs_layout.specs.Touches.{SameBut, inode_block, slot_block}
use Rattle.fs_layout.proofs.Touching.{inode_then_slot}
use Rattle.fs_inodes.proofs.shrinking.remove_empty.Goals as goal

pub returns-clause-done : goal.returns-clause-done
returns-clause-done g c =
    let old = g.B.Blocks.blocks c.args.blocks.now in
    let mid = g.B.Blocks.blocks c.put_inode.new.blocks in
    let new = g.B.Blocks.blocks c.put_slot.new.blocks in
    on_ok_weaker {P = PutsRecord (bitmap_blocks (length mid) + c.args.inodes / 64) c.args.at (replicate 64 0) mid new}
    {Q = Makes c.args.inodes (set (table c.args.inodes old) c.args.at None) new} c.put_slot.result
    (λ put. removes c.args.inodes c.args.at old mid new c.requires.room c.requires.rule c.requires.below c.requires.file c.requires.empty
    c.in_ok-put_inode.ensures.done put)
    c.put_slot.ensures.done

pub returns-clause-touches : goal.returns-clause-touches
returns-clause-touches g c =
    let old = g.B.Blocks.blocks c.args.blocks.now in
    let mid = g.B.Blocks.blocks c.put_inode.new.blocks in
    let new = g.B.Blocks.blocks c.put_slot.new.blocks in
    on_ok_weaker {P = PutsRecord (bitmap_blocks (length mid) + c.args.inodes / 64) c.args.at (replicate 64 0) mid new}
    {Q = SameBut (inode_block (length old) c.args.at ∷ slot_block (length old) c.args.inodes c.args.at ∷ []) old new} c.put_slot.result
    (λ put. inode_then_slot c.args.inodes c.args.at (replicate 64 0) (replicate 64 0) old mid new c.in_ok-put_inode.ensures.done put)
    c.put_slot.ensures.done

pub returns-clause-count : goal.returns-clause-count
returns-clause-count g c =
    let old = g.B.Blocks.blocks c.args.blocks.now in
    let mid = g.B.Blocks.blocks c.put_inode.new.blocks in
    let new = g.B.Blocks.blocks c.put_slot.new.blocks in
    on_ok_weaker {P = PutsRecord (bitmap_blocks (length mid) + c.args.inodes / 64) c.args.at (replicate 64 0) mid new}
    {Q = length new ≡ length old} c.put_slot.result
    (λ put. put.count ∙ c.in_ok-put_inode.ensures.done.count)
    c.put_slot.ensures.done
