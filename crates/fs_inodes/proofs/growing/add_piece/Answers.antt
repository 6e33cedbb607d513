use Rattle.std.proofs.Common.{◌≡◌, ℕ, ◌+◌, ◌-◌, ◌*◌, ◌/◌, ◌%◌, ◌<◌, ◌≤◌, List, [], ◌∷◌, ◌++◌, length, get_or, take, set, sym, ◌∙◌, ap}
use Rattle.std.proofs.Common.{subst, arith, length-set, OnOk}
use Rattle.std.proofs.lemmas.List.Elements.{Contains-append_right, Contains-push}
use Rattle.std.proofs.lemmas.Result.{on_ok_weaker}
use Rattle.byteorder.specs.Endian.{little_bytes}
use Rattle.disk.specs.Image.{overwritten}
use Rattle.model.specs.Volume.{number_at}
use Rattle.model.specs.Files.{FileEntry, entry, entry_of, free_blocks, inode_of, size, pointer, first_data, indirect_for, indirect_pointer}
use Rattle.model.specs.Files.{bitmap_blocks, block_count}
use Rattle.model.proofs.Owning.{owns_pointer}
use Rattle.fs_layout.specs.Blocks.{IsThere, PutsRecord}
use Rattle.fs_layout.specs.Touches.{TouchesData}
use Rattle.model.specs.Room.{content_blocks}
use Rattle.fs_inodes.specs.Growing.{inode_entry, with_indirect, AddsBlock, GrowsBy, NamesBlocks}
use Rattle.fs_inodes.proofs.Named.{double_is_there, file_names, table_is_there}
use Rattle.fs_inodes.proofs.Extends.{extends_last, extends_new}
use Rattle.fs_inodes.proofs.Grows.{Extends, grown}
use Rattle.fs_inodes.proofs.growing.add_piece.Given.{Over}
use Rattle.fs_inodes.proofs.growing.add_piece.Goals as goal
use Rattle.fs_inodes.proofs.growing.add_piece.Goals.{After-number64-size, In_ok-put_piece, After-put_inode}
use Rattle.fs_inodes.proofs.growing.add_piece.Goals.{then-within-eq0+in_ok-number, else-within-eq0}

-- the size that was read is the file's
sized : (g : Over) (c : After-number64-size g)
    → c.number64-size.result ≡ size (entry c.args.inodes (g.B.Blocks.blocks c.args.blocks.now) c.args.at)
sized g c = c.number64-size.ensures ∙ ap (λ (o : List ℕ). number_at 4 8 o) c.get_inode.ensures

-- as many blocks as there were
count : (g : Over) (c : In_ok-put_piece g)
    → length (g.B.Blocks.blocks c.put_piece.new.blocks) ≡ length (g.B.Blocks.blocks c.args.blocks.now)
count g c =
    let puts = c.in_ok-put_piece.ensures.done in
    ap (λ (bs : List (List ℕ)). length bs) puts.puts
    ∙ length-set (g.B.Blocks.blocks c.if-within-eq0.blocks) c.if-within-eq0.number
    (overwritten (c.number64-size.result % 4096) c.args.piece.now puts.block)
    ∙ elim c.if-within-eq0.branch [
      | then-within-eq0+in_ok-number w ↦ ap (λ (b : g.row.B.Denot). length (g.B.Blocks.blocks b)) w.blocks-is
          ∙ w.in_ok-number.ensures.done.count
      | else-within-eq0 w ↦ ap (λ (b : g.row.B.Denot). length (g.B.Blocks.blocks b)) w.blocks-is
    ]

pub add_block-requires-clause-names : goal.add_block-requires-clause-names
add_block-requires-clause-names g c =
    let blocks = g.B.Blocks.blocks c.args.blocks.now in
    let e : FileEntry = entry c.args.inodes blocks c.args.at in
    let is = sized g (goal.at.add_block-requires-clause-names g c).After-number64-size in
    let count : block_count e ≡ c.number64-size.result / 4096 = omega (arith, is, c.if-within-eq0.true) in
    subst (λ (o : List ℕ). NamesBlocks (indirect_for (c.number64-size.result / 4096)) (inode_entry blocks o) blocks)
    (sym c.get_inode.ensures)
    (subst (λ (m : ℕ). NamesBlocks (indirect_for m) (inode_entry blocks (inode_of blocks c.args.at)) blocks) count
    (file_names c.args.inodes c.args.at blocks c.requires.room c.requires.rule c.requires.below c.requires.file))

pub add_block-requires-clause-free : goal.add_block-requires-clause-free
add_block-requires-clause-free g c =
    let blocks = g.B.Blocks.blocks c.args.blocks.now in
    let e : FileEntry = entry c.args.inodes blocks c.args.at in
    let piece = c.args.piece.now in
    let is = sized g (goal.at.add_block-requires-clause-free g c).After-number64-size in
    let was : block_count e ≡ c.number64-size.result / 4096 = omega (arith, is, c.if-within-eq0.true) in
    let now : (size e + length piece + 4095) / 4096 ≡ c.number64-size.result / 4096 + 1 =
    omega (arith, is, c.if-within-eq0.true, c.requires.some, c.requires.within) in
    subst (λ (m : ℕ). with_indirect (c.number64-size.result / 4096 + 1) ≤ free_blocks blocks + with_indirect m) was
    (subst (λ (m : ℕ). with_indirect m ≤ free_blocks blocks + with_indirect (block_count e)) now c.requires.enough.1)

pub pointer_at-number-requires-clause-double : goal.pointer_at-number-requires-clause-double
pointer_at-number-requires-clause-double g c =
    let blocks = g.B.Blocks.blocks c.args.blocks.now in
    let e : FileEntry = entry c.args.inodes blocks c.args.at in
    let is = sized g (goal.at.pointer_at-number-requires-clause-double g c).After-number64-size in
    subst (λ (o : List ℕ). 1034 ≤ c.number64-size.result / 4096 → IsThere (number_at 56 4 o) blocks) (sym c.get_inode.ensures)
    (double_is_there c.args.inodes c.args.at blocks c.requires.room c.requires.rule c.requires.below c.requires.file
    (c.number64-size.result / 4096) (omega (arith, c.if-within-eq0.false)))

pub pointer_at-number-requires-clause-indirect : goal.pointer_at-number-requires-clause-indirect
pointer_at-number-requires-clause-indirect g c =
    let blocks = g.B.Blocks.blocks c.args.blocks.now in
    let e : FileEntry = entry c.args.inodes blocks c.args.at in
    let is = sized g (goal.at.pointer_at-number-requires-clause-indirect g c).After-number64-size in
    subst (λ (o : List ℕ). 10 ≤ c.number64-size.result / 4096
    → IsThere (indirect_pointer (entry_of blocks o []) ((c.number64-size.result / 4096 - 10) / 1024)) blocks) (sym c.get_inode.ensures)
    (table_is_there c.args.inodes c.args.at blocks c.requires.room c.requires.rule c.requires.below c.requires.file
    (c.number64-size.result / 4096) (omega (arith, c.if-within-eq0.false)))

pub put_piece-requires-clause-there : goal.put_piece-requires-clause-there
put_piece-requires-clause-there g c =
    let blocks = g.B.Blocks.blocks c.args.blocks.now in
    let e : FileEntry = entry c.args.inodes blocks c.args.at in
    let i = c.number64-size.result / 4096 in
    let is = sized g (goal.at.put_piece-requires-clause-there g c).After-number64-size in
    elim c.if-within-eq0.branch [
      | then-within-eq0+in_ok-number w ↦
          let adds = w.in_ok-number.ensures.done in
          let count = ap (λ (b : g.row.B.Denot). length (g.B.Blocks.blocks b)) w.blocks-is ∙ adds.count in
          let low = (adds.takes.free w.in_ok-number.number
          (Contains-append_right adds.doubles (adds.tables ++ w.in_ok-number.number ∷ []) w.in_ok-number.number
          (Contains-push adds.tables w.in_ok-number.number))).0 in
          omega (arith, count, low, w.number-is)
      | else-within-eq0 w ↦
          let low : i < block_count e = omega (arith, w.if-within-eq0.false) in
          let is : w.pointer_at-number.result ≡ pointer e i = w.pointer_at-number.ensures
          ∙ ap (λ (o : List ℕ). pointer (entry_of blocks o []) i) c.get_inode.ensures in
          let count = ap (λ (b : g.row.B.Denot). length (g.B.Blocks.blocks b)) w.blocks-is in
          let inside = (c.requires.rule.within c.args.at (pointer e i) c.requires.below (owns_pointer e i low)).1 in
          omega (arith, count, w.number-is, is, inside)
    ]

-- the longer file, and the blocks that change
done : (g : Over) (c : After-put_inode g) → OnOk c.put_inode.result
    (GrowsBy c.args.inodes c.args.at c.args.piece.now (g.B.Blocks.blocks c.args.blocks.now) (g.B.Blocks.blocks c.put_inode.new.blocks)
    × TouchesData c.args.at (c.if-within-eq0.number ∷ [])
    (content_blocks (size (entry c.args.inodes (g.B.Blocks.blocks c.args.blocks.now) c.args.at)))
    (content_blocks (size (entry c.args.inodes (g.B.Blocks.blocks c.args.blocks.now) c.args.at) + length c.args.piece.now))
    (g.B.Blocks.blocks c.args.blocks.now) (g.B.Blocks.blocks c.put_inode.new.blocks))
done g c =
    let old = g.B.Blocks.blocks c.args.blocks.now in
    let mid = g.B.Blocks.blocks c.if-within-eq0.blocks in
    let new = g.B.Blocks.blocks c.put_inode.new.blocks in
    let at = c.args.at in
    let e : FileEntry = entry c.args.inodes old at in
    let n = c.number64-size.result / 4096 in
    let r = c.number64-size.result % 4096 in
    let inode = c.if-within-eq0.inode in
    let number = c.if-within-eq0.number in
    let puts = c.in_ok-put_piece.ensures.done in
    let piece = c.args.piece.now in
    let known = sized g (goal.at.returns-clause-kept g c).After-number64-size in
    let parts : size e ≡ 4096 * n + r = omega arith in
    let few : n < 1048576 = omega (arith, known, c.requires.enough.0, c.requires.some) in
    let ready : Extends (first_data (length (g.B.Blocks.blocks c.args.blocks.now)) c.args.inodes) n number e (inode_entry mid inode) old mid
    × (take r (get_or mid number []) ≡ take r (get_or old (pointer e n) [])) = (elim c.if-within-eq0.branch [
      | then-within-eq0+in_ok-number w ↦
          let none : r ≡ 0 = w.if-within-eq0.true in
          let blocks_are = ap (λ (b : g.row.B.Denot). g.B.Blocks.blocks b) w.blocks-is in
          let adds : AddsBlock n number (inode_of old at) inode old mid =
          subst (λ (bs : List (List ℕ)). AddsBlock n number (inode_of old at) inode old bs) (sym blocks_are)
          (subst (λ (o : List ℕ). AddsBlock n number (inode_of old at) o old (g.B.Blocks.blocks w.add_block.new.blocks)) (sym w.inode-is)
          (subst (λ (m : ℕ). AddsBlock n m (inode_of old at) w.add_block.new.inode old (g.B.Blocks.blocks w.add_block.new.blocks))
          (sym w.number-is)
          (subst (λ (o : List ℕ). AddsBlock n w.in_ok-number.number o w.add_block.new.inode old (g.B.Blocks.blocks w.add_block.new.blocks))
          c.get_inode.ensures w.in_ok-number.ensures.done))) in (
            extends_new c.args.inodes at n old c.requires.room c.requires.rule c.requires.below c.requires.file few number inode mid
                (omega arith) adds,
            ap (λ (m : ℕ). take m (get_or mid number [])) none ∙ sym (ap (λ (m : ℕ). take m (get_or old (pointer e n) [])) none),
          )
      | else-within-eq0 w ↦
          let low : n < block_count e = omega (arith, w.if-within-eq0.false) in
          let is : w.pointer_at-number.result ≡ pointer e n = w.pointer_at-number.ensures
          ∙ ap (λ (o : List ℕ). pointer (entry_of old o []) n) c.get_inode.ensures in
          let blocks_are : mid ≡ old = ap (λ (b : g.row.B.Denot). g.B.Blocks.blocks b) w.blocks-is in (
            subst (λ (bs : List (List ℕ)). Extends (first_data (length (g.B.Blocks.blocks c.args.blocks.now)) c.args.inodes) n number e
                (inode_entry bs inode) old bs) (sym blocks_are)
                (subst (λ (o : List ℕ). Extends (first_data (length (g.B.Blocks.blocks c.args.blocks.now)) c.args.inodes) n number e
                (inode_entry old o) old old)
                (sym (w.inode-is ∙ c.get_inode.ensures))
                (extends_last c.args.inodes at n old c.requires.room c.requires.rule c.requires.below c.requires.file few r number parts
                (omega (arith, w.if-within-eq0.false)) (omega arith) (w.number-is ∙ is))),
            ap (λ (bs : List (List ℕ)). take r (get_or bs number [])) blocks_are
                ∙ ap (λ (m : ℕ). take r (get_or old m [])) (w.number-is ∙ is),
          )
    ]) in
    let inside : r + length piece ≤ 4096 = omega (arith, c.requires.within) in
    let octets_are : c.put64.new.octets ≡ overwritten 4 (little_bytes 8 (size e + length piece)) inode = c.put64.ensures
    ∙ ap (λ (m : ℕ). overwritten 4 (little_bytes 8 (m + length piece)) inode) known in
    on_ok_weaker c.put_inode.result
    (λ put. grown c.args.inodes at n r number piece puts.block inode old mid new c.requires.room c.requires.rule c.requires.below
    c.requires.file parts inside c.requires.some c.requires.enough.0 ready.0 puts.whole (puts.front ∙ ready.1)
    (subst (λ (o : List ℕ). PutsRecord (bitmap_blocks (length (set mid number (overwritten r piece puts.block)))) at o
    (set mid number (overwritten r piece puts.block)) new) octets_are
    (subst (λ (bs : List (List ℕ)). PutsRecord (bitmap_blocks (length bs)) at c.put64.new.octets bs new) puts.puts put)))
    c.put_inode.ensures.done

pub returns-clause-grown : goal.returns-clause-grown
returns-clause-grown g c = on_ok_weaker c.put_inode.result (λ both. both.0) (done g c)

pub returns-clause-touches : goal.returns-clause-touches
returns-clause-touches g c = on_ok_weaker c.put_inode.result (λ both. (c.if-within-eq0.number, both.1)) (done g c)

pub put_inode-requires-clause-there : goal.put_inode-requires-clause-there
put_inode-requires-clause-there g c =
    omega (
      arith,
      count g (goal.at.put_inode-requires-clause-there g c).In_ok-put_piece,
      c.requires.room.room,
      c.requires.room.whole,
      c.requires.below,
    )

pub put_inode-requires-clause-few : goal.put_inode-requires-clause-few
put_inode-requires-clause-few g c =
    omega (arith, count g (goal.at.put_inode-requires-clause-few g c).In_ok-put_piece, c.requires.room.count_few)

pub returns-clause-kept : goal.returns-clause-kept
returns-clause-kept g c =
    c.put_inode.ensures.kept ∙ c.put_piece.ensures.kept ∙ elim c.if-within-eq0.branch [
      | then-within-eq0+in_ok-number w ↦ ap (λ (b : g.row.B.Denot). g.B.Blocks.applied b) w.blocks-is ∙ w.in_ok-number.ensures.kept
      | else-within-eq0 w ↦ ap (λ (b : g.row.B.Denot). g.B.Blocks.applied b) w.blocks-is
    ]
