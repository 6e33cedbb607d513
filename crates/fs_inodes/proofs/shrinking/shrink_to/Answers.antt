use Rattle.std.proofs.Common.{◌≡◌, ◌≤◌, ◌<◌, ℕ, ◌+◌, ◌-◌, ◌*◌, ◌/◌, List, length, take, refl, sym, ◌∙◌, ap, subst, arith}
use Rattle.std.proofs.lemmas.List.{length-take, length-take-le, take_all, take-take}
use Rattle.std.proofs.lemmas.Result.{on_ok_weaker}
use Rattle.model.specs.Volume.{number_at}
use Rattle.model.specs.Files.{FileEntry, HasRoom, IsFile, IsFileSystem, block_count, entry, size, content_of}
use Rattle.model.proofs.Owning.{content_size}
use Rattle.fs_inodes.specs.Changes.{ReplacesContent, SameMarks, TakesNone}
use Rattle.fs_inodes.proofs.Replacing.{replaces_none, replaces_same, replaces_then, named_now, size_now}
use Rattle.fs_layout.specs.Touches.{TouchesInode}
use Rattle.fs_layout.proofs.Touching.{inode_none, inode_then}
use Rattle.fs_inodes.proofs.shrinking.shrink_to.Invariants.{Shrunk}
use Rattle.fs_inodes.proofs.shrinking.shrink_to.Goals as goal

module _ (inodes at end keep : ℕ) (old : List (List ℕ)) (room : HasRoom inodes old) (fs : IsFileSystem inodes old) (low : at < inodes)
    (file : IsFile (entry inodes old at)) (shorter : end ≤ size (entry inodes old at)) (kept : keep ≡ (end + 4095) / 4096) where
  abbrev content : List ℕ
  content = content_of old (entry inodes old at)

  long : length content ≡ size (entry inodes old at)
  long = content_size old (entry inodes old at) room.blocks_whole (λ b owns. (fs.within at b low owns).1)

  none : (left : ℕ) → left ≡ block_count (entry inodes old at) → Shrunk inodes at keep left old old
  none left is = record {
    at_least = omega arith;
    at_most = omega arith;
    counted = sym is;
    replaced = replaces_none inodes at (take (4096 * left) content) old room fs low file
        (take_all (4096 * left) content (omega (arith, long)));
    none_taken = λ b small marked. marked;
    touched = subst (λ (n : ℕ). TouchesInode at left n old old) is (inode_none at left old);
  }

  module _ (left : ℕ) (new : List (List ℕ)) (so_far : Shrunk inodes at keep left old new) where
    still_file : IsFile (entry inodes new at)
    still_file = (named_now inodes at (take (4096 * left) content) old new low so_far.replaced).file

    content_now : take (4096 * left) content ≡ content_of new (entry inodes new at)
    content_now = (named_now inodes at (take (4096 * left) content) old new low so_far.replaced).content_is

    sized : size (entry inodes new at) ≡ length (take (4096 * left) content)
    sized = size_now inodes at (take (4096 * left) content) old new low so_far.replaced

    more : (last : ℕ) (newer : List (List ℕ)) → last + 1 ≡ left → keep < left
        → ReplacesContent inodes at (take (4096 * last) (content_of new (entry inodes new at))) new newer → TakesNone new newer
        → TouchesInode at last (last + 1) new newer → Shrunk inodes at keep last old newer
    more last newer is above then taken touches =
        let front : length (take (4096 * last) content) ≡ 4096 * last =
        length-take-le (4096 * last) content (omega (arith, long, so_far.at_most)) in
        let content_is : take (4096 * last) (content_of new (entry inodes new at)) ≡ take (4096 * last) content =
        ap (λ (o : List ℕ). take (4096 * last) o) (sym content_now) ∙ take-take (4096 * last) (4096 * left) content (omega arith) in
        let replaced = replaces_same inodes at (take (4096 * last) (content_of new (entry inodes new at)))
        (take (4096 * last) content) old newer content_is
        (replaces_then inodes at (take (4096 * left) content) old new low so_far.replaced
        (take (4096 * last) (content_of new (entry inodes new at))) newer then) in
        let size_then = size_now inodes at (take (4096 * last) content) old newer low replaced in
        record {
          at_least = omega arith;
          at_most = omega (arith, so_far.at_most);
          counted = omega (arith, size_then, front);
          replaced = replaced;
          none_taken = λ b small marked. so_far.none_taken b small (taken b (omega (arith, small, so_far.touched.count)) marked);
          touched = inode_then at last left (block_count (entry inodes old at)) old new newer
              (omega (arith, is)) so_far.at_most so_far.touched (subst (λ (n : ℕ). TouchesInode at last n new newer) is touches);
        }

    module _ (ends : left ≤ keep) where
      -- the end lies within what is left
      fits : end ≤ size (entry inodes new at)
      fits = omega (arith, sized, length-take-min)
        where
          length-take-min : end ≤ length (take (4096 * left) content)
          length-take-min = omega (arith, length-take (4096 * left) content, long, so_far.at_least)

      all : (newer : List (List ℕ)) → ReplacesContent inodes at (take end (content_of new (entry inodes new at))) new newer
          → ReplacesContent inodes at (take end content) old newer
      all newer then =
          replaces_same inodes at (take end (content_of new (entry inodes new at))) (take end content) old newer
          (ap (λ (o : List ℕ). take end o) (sym content_now) ∙ take-take end (4096 * left) content (omega (arith, so_far.at_least)))
          (replaces_then inodes at (take (4096 * left) content) old new low so_far.replaced
          (take end (content_of new (entry inodes new at))) newer then)

pub loop-left-init : goal.loop-left-init
loop-left-init g c =
    let old = g.B.Blocks.blocks c.args.blocks.now in
    let e : FileEntry = entry c.args.inodes old c.args.at in
    let sized : c.number64.result ≡ size e = c.number64.ensures ∙ ap (λ (o : List ℕ). number_at 4 8 o) c.get_inode.ensures in
    let counted : c.content_blocks-left.result ≡ block_count e =
    c.content_blocks-left.ensures ∙ ap (λ (n : ℕ). (n + 4095) / 4096) sized in (
      none c.args.inodes c.args.at c.args.end c.content_blocks-keep.result old c.requires.room c.requires.rule c.requires.below
          c.requires.file c.requires.shorter c.content_blocks-keep.ensures c.content_blocks-left.result counted,
      refl,
    )

pub drop_block-requires-clause-file : goal.drop_block-requires-clause-file
drop_block-requires-clause-file g c =
    still_file c.args.inodes c.args.at c.args.end c.content_blocks-keep.result (g.B.Blocks.blocks c.args.blocks.now) c.requires.room
    c.requires.rule c.requires.below c.requires.file c.requires.shorter c.content_blocks-keep.ensures c.loop-left.left
    (g.B.Blocks.blocks c.loop-left.blocks) c.loop-left.invariant.0

pub loop-left-preserved : goal.loop-left-preserved
loop-left-preserved g c =
    let last : c.loop-left.left - 1 + 1 ≡ c.loop-left.left = omega arith in (
      more c.args.inodes c.args.at c.args.end c.content_blocks-keep.result (g.B.Blocks.blocks c.args.blocks.now) c.requires.room
          c.requires.rule c.requires.below c.requires.file c.requires.shorter c.content_blocks-keep.ensures c.loop-left.left
          (g.B.Blocks.blocks c.loop-left.blocks) c.loop-left.invariant.0
          (c.loop-left.left - 1) (g.B.Blocks.blocks c.drop_block.new.blocks) last
          (omega arith) c.in_ok-drop_block.ensures.done c.in_ok-drop_block.ensures.none_taken c.in_ok-drop_block.ensures.touches,
      c.in_ok-drop_block.ensures.kept ∙ c.loop-left.invariant.1,
    )

pub cut-requires-clause-file : goal.cut-requires-clause-file
cut-requires-clause-file g c =
    still_file c.args.inodes c.args.at c.args.end c.content_blocks-keep.result (g.B.Blocks.blocks c.args.blocks.now) c.requires.room
    c.requires.rule c.requires.below c.requires.file c.requires.shorter c.content_blocks-keep.ensures c.loop-left.left
    (g.B.Blocks.blocks c.loop-left.blocks) c.loop-left.invariant.0

pub cut-requires-clause-shorter : goal.cut-requires-clause-shorter
cut-requires-clause-shorter g c =
    fits c.args.inodes c.args.at c.args.end c.content_blocks-keep.result (g.B.Blocks.blocks c.args.blocks.now) c.requires.room
    c.requires.rule c.requires.below c.requires.file c.requires.shorter c.content_blocks-keep.ensures c.loop-left.left
    (g.B.Blocks.blocks c.loop-left.blocks) c.loop-left.invariant.0 (omega arith)

pub returns-clause-done : goal.returns-clause-done
returns-clause-done g c =
    let old = g.B.Blocks.blocks c.args.blocks.now in
    let mid = g.B.Blocks.blocks c.loop-left.blocks in
    let new = g.B.Blocks.blocks c.cut.new.blocks in
    on_ok_weaker
    {P = ReplacesContent c.args.inodes c.args.at (take c.args.end (content_of mid (entry c.args.inodes mid c.args.at))) mid new}
    {Q = ReplacesContent c.args.inodes c.args.at (take c.args.end (content_of old (entry c.args.inodes old c.args.at))) old new}
    c.cut.result
    (λ then. all c.args.inodes c.args.at c.args.end c.content_blocks-keep.result old c.requires.room c.requires.rule c.requires.below
    c.requires.file c.requires.shorter c.content_blocks-keep.ensures c.loop-left.left mid c.loop-left.invariant.0
    (omega arith) new then)
    c.cut.ensures.done

pub returns-clause-touches : goal.returns-clause-touches
returns-clause-touches g c =
    let old = g.B.Blocks.blocks c.args.blocks.now in
    let mid = g.B.Blocks.blocks c.loop-left.blocks in
    let new = g.B.Blocks.blocks c.cut.new.blocks in
    let at = c.args.at in
    let keep = (c.args.end + 4095) / 4096 in
    let most = block_count (entry c.args.inodes old at) in
    let so_far = c.loop-left.invariant.0 in
    let left : c.loop-left.left ≡ keep = omega (arith, c.content_blocks-keep.ensures, so_far.at_least) in
    let touched : TouchesInode at keep most old mid = subst (λ (n : ℕ). TouchesInode at n most old mid) left so_far.touched in
    on_ok_weaker {P = TouchesInode at keep keep mid new} {Q = TouchesInode at keep most old new} c.cut.result
    (λ then. inode_then at keep keep most old mid new (omega arith) (omega (arith, left, so_far.at_most)) touched then)
    c.cut.ensures.touches

pub returns-clause-none_taken : goal.returns-clause-none_taken
returns-clause-none_taken g c =
    let old = g.B.Blocks.blocks c.args.blocks.now in
    let mid = g.B.Blocks.blocks c.loop-left.blocks in
    let new = g.B.Blocks.blocks c.cut.new.blocks in
    on_ok_weaker {P = SameMarks mid new} {Q = TakesNone old new} c.cut.result
    (λ same b small marked. c.loop-left.invariant.0.none_taken b small
    (sym (same.marks b (omega (arith, small, c.loop-left.invariant.0.touched.count))) ∙ marked))
    c.cut.ensures.marks
