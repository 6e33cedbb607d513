use Rattle.std.proofs.Common.{◌≡◌, ◌+◌, ◌^◌, ◌∙◌, ℕ, List, [], ap, get_or, length, subst, sym}
use Rattle.model.specs.Article.{overview_line}
use Rattle.model.specs.Files.{table}
use Rattle.model.specs.FileCalls.{next_line}
use Rattle.spool_groups.specs.Shown.{shown}
use Rattle.spool_opening.specs.Going.{GoesOn}
use Rattle.spool_opening.specs.Stored.{HasPiece, file_for, name_for, piece_for}
use Rattle.spool_reading.proofs.Sizes.{all_more, count_more, name_here, sizes_more}
use Rattle.spool_opening.proofs.Sizes.{few_filed, goes_by_pieces, line_size, pieces_more, pieces_of, short_end}
use Rattle.spool_opening.proofs.continued_lines.line_sizes.Goals as goal

pub goes_on-requires-clause-few : goal.goes_on-requires-clause-few
goes_on-requires-clause-few g c =
    few_filed c.args.index.now c.as_slice.result.now (shown c.in-Some.group.now) c.requires.bounded
    (c.in-Some.ensures c.requires.bounded.changes c.requires.bounded.indexed)

pub goes_on-requires-clause-short : goal.goes_on-requires-clause-short
goes_on-requires-clause-short g c =
    short_end c.args.index.now c.as_slice.result.now (shown c.in-Some.group.now) c.requires.bounded
    (c.in-Some.ensures c.requires.bounded.changes c.requires.bounded.indexed)

pub returns-in_default-2-clause-lines : goal.returns-in_default-2-clause-lines
returns-in_default-2-clause-lines g c = λ S is count here all.
    let inodes = table c.args.inodes (g.B.Blocks.blocks c.args.blocks.now) in
    let name = c.as_slice.result.now in
    let names : name ≡ get_or c.args.here.now c.loop-name.name-index [] =
    name_here c.args.here.now c.loop-name.name-index c.name-item.result name c.loop-name-test.true c.as_slice.ensures c.name-item.is in
    let none = rw c.in_default-2.is at c.in_ok-size.ensures in
    none (subst (λ (text : List ℕ). GoesOn inodes (shown c.in-Some.group.now) c.args.serial text) (sym c.in_ok-overview.ensures)
    (goes_by_pieces inodes S name c.args.article.now (shown c.in-Some.group.now) c.args.serial (c.in-Some.ensures S is) count
    (λ w. subst (λ (g' : List ℕ). HasPiece inodes (name_for w g') (length (file_for w S g')) (piece_for w S c.args.article.now g'))
    (sym names) (all c.loop-name.name-index w c.loop-name-test.true))))

pub loop-name-preserved : goal.loop-name-preserved
loop-name-preserved g c =
    let inodes = table c.args.inodes (g.B.Blocks.blocks c.args.blocks.now) in
    let name = c.as_slice.result.now in
    let j = c.loop-name.name-index in
    let old = c.loop-name.sizes.items in
    let names : name ≡ get_or c.args.here.now j [] =
    name_here c.args.here.now j c.name-item.result name c.loop-name-test.true c.as_slice.ensures c.name-item.is in
    let goes = rw c.in-Some-2.is at c.in_ok-size.ensures in
    let goes_on : GoesOn inodes (shown c.in-Some.group.now) c.args.serial c.args.article.now =
    subst (λ (text : List ℕ). GoesOn inodes (shown c.in-Some.group.now) c.args.serial text) c.in_ok-overview.ensures goes.0 in
    let size : c.in-Some-2.size ≡ length (overview_line (length (shown c.in-Some.group.now).filed + 1) c.args.article.now) =
    goes.1 ∙ ap (λ (text : List ℕ). length (overview_line (length (shown c.in-Some.group.now).filed + 1) text)) c.in_ok-overview.ensures in
    record {
      count = count_more old c.push.new.self.items c.in-Some-2.size j c.in_ok-push.ensures.items c.loop-name.invariant.count;
      small = all_more (2 ^ 32) old c.push.new.self.items c.in-Some-2.size c.in_ok-push.ensures.items c.loop-name.invariant.small goes.2;
      pieces = λ S is count here.
          pieces_more (λ k w. HasPiece inodes (name_for w (get_or c.args.here.now k []))
          (length (file_for w S (get_or c.args.here.now k []))) (piece_for w S c.args.article.now (get_or c.args.here.now k []))) j
          (c.loop-name.invariant.pieces S is count here)
          (λ w. subst (λ (g' : List ℕ). HasPiece inodes (name_for w g') (length (file_for w S g')) (piece_for w S c.args.article.now g'))
          names
          (pieces_of inodes S name c.args.article.now (shown c.in-Some.group.now) c.args.serial (c.in-Some.ensures S is) count goes_on w));
      sizes = λ S is count here.
          sizes_more (λ k. length (next_line S c.args.article.now (get_or c.args.here.now k []))) old c.push.new.self.items c.in-Some-2.size
          j c.in_ok-push.ensures.items c.loop-name.invariant.count (c.loop-name.invariant.sizes S is count here)
          (subst (λ (g' : List ℕ). c.in-Some-2.size ≡ length (next_line S c.args.article.now g')) names
          (line_size S name c.args.article.now (shown c.in-Some.group.now) c.in-Some-2.size (c.in-Some.ensures S is) size));
    }
