use Rattle.std.proofs.Common.{length, ℕ, ◌+◌, ◌/◌, List, take, ◌∙◌, ap, subst}
use Rattle.std.proofs.lemmas.Result.{on_ok_weaker}
use Rattle.byteorder.specs.Endian.{little_bytes}
use Rattle.disk.specs.Image.{overwritten}
use Rattle.model.specs.Files.{bitmap_blocks, content_of, entry}
use Rattle.fs_layout.specs.Blocks.{PutsRecord}
use Rattle.fs_inodes.specs.Changes.{ReplacesContent, SameMarks}
use Rattle.fs_inodes.proofs.Cutting.{cuts, cuts_marks, cuts_touches}
use Rattle.fs_layout.specs.Touches.{TouchesInode}
use Rattle.fs_inodes.proofs.shrinking.cut.Goals as goal

pub returns-clause-done : goal.returns-clause-done
returns-clause-done g c =
    let old = g.B.Blocks.blocks c.args.blocks.now in
    let new = g.B.Blocks.blocks c.put_inode.new.blocks in
    let inode = c.put64.ensures ∙ ap (λ (o : List ℕ). overwritten 4 (little_bytes 8 c.args.end) o) c.get_inode.ensures in
    on_ok_weaker {P = PutsRecord (bitmap_blocks (length old)) c.args.at c.put64.new.octets old new}
    {Q = ReplacesContent c.args.inodes c.args.at (take c.args.end (content_of old (entry c.args.inodes old c.args.at))) old new}
    c.put_inode.result
    (λ put. cuts c.args.inodes c.args.at c.args.end old new c.requires.room c.requires.rule c.requires.below c.requires.file
    c.requires.shorter c.requires.same_count
    (subst (λ (o : List ℕ). PutsRecord (bitmap_blocks (length old)) c.args.at o old new) inode put))
    c.put_inode.ensures.done

pub returns-clause-marks : goal.returns-clause-marks
returns-clause-marks g c =
    let old = g.B.Blocks.blocks c.args.blocks.now in
    let new = g.B.Blocks.blocks c.put_inode.new.blocks in
    let inode = c.put64.ensures ∙ ap (λ (o : List ℕ). overwritten 4 (little_bytes 8 c.args.end) o) c.get_inode.ensures in
    on_ok_weaker {P = PutsRecord (bitmap_blocks (length old)) c.args.at c.put64.new.octets old new} {Q = SameMarks old new}
    c.put_inode.result
    (λ put. cuts_marks c.args.inodes c.args.at c.args.end old new c.requires.room c.requires.rule c.requires.below c.requires.file
    c.requires.shorter c.requires.same_count
    (subst (λ (o : List ℕ). PutsRecord (bitmap_blocks (length old)) c.args.at o old new) inode put))
    c.put_inode.ensures.done

pub returns-clause-touches : goal.returns-clause-touches
returns-clause-touches g c =
    let old = g.B.Blocks.blocks c.args.blocks.now in
    let new = g.B.Blocks.blocks c.put_inode.new.blocks in
    let inode = c.put64.ensures ∙ ap (λ (o : List ℕ). overwritten 4 (little_bytes 8 c.args.end) o) c.get_inode.ensures in
    on_ok_weaker {P = PutsRecord (bitmap_blocks (length old)) c.args.at c.put64.new.octets old new}
    {Q = TouchesInode c.args.at ((c.args.end + 4095) / 4096) ((c.args.end + 4095) / 4096) old new} c.put_inode.result
    (λ put. cuts_touches c.args.inodes c.args.at c.args.end old new c.requires.room c.requires.rule c.requires.below c.requires.file
    c.requires.shorter c.requires.same_count
    (subst (λ (o : List ℕ). PutsRecord (bitmap_blocks (length old)) c.args.at o old new) inode put))
    c.put_inode.ensures.done
