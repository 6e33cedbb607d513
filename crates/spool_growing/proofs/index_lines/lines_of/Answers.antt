use Rattle.std.proofs.Common.{◌≡◌, ◌^◌, ◌∙◌, ◌++◌, ◌∷◌, ℕ, List, [], get_or, length, take, ap, arith, subst, sym}
use Rattle.std.proofs.lemmas.List.{take_all, take_more}
use Rattle.model.specs.Files.{table}
use Rattle.model.specs.FileCalls.{next_line}
use Rattle.spool_growing.specs.declared.file_calls.Piece.{Piece}
use Rattle.spool_growing.specs.Articles.{ArePieces, ArePiecesOf}
use Rattle.spool_reading.proofs.Sizes.{all_more, count_more, name_here, sizes_more}
use Rattle.spool_growing.proofs.Adding.{pieces_more}
use Rattle.spool_growing.proofs.index_lines.lines_of.Goals as goal

pub loop-name-preserved : goal.loop-name-preserved
loop-name-preserved c =
    let j = c.loop-name.name-index in
    let name = c.as_slice.result.now in
    let number = c.in_ok-number.number in
    let line = c.in_ok-number.line in
    let old = c.loop-name.lines.sizes.items in
    let pieces = c.loop-name.lines.pieces.items in
    let names : name ≡ get_or c.args.filed.now j [] =
    name_here c.args.filed.now j c.name-item.result name c.loop-name-test.true c.as_slice.ensures c.name-item.is in
    let same = c.in_ok-overview.ensures in
    let size = length line.octets.items in
    let both : c.push.new.self.pieces.items ≡ pieces ++ number ∷ line ∷ [] = c.in_ok-push.ensures.pieces in
    record {
      count = count_more old c.push.new.self.sizes.items size j c.in_ok-push.ensures.sizes c.loop-name.invariant.count;
      small = all_more (2 ^ 32) old c.push.new.self.sizes.items size c.in_ok-push.ensures.sizes c.loop-name.invariant.small
          (omega (arith, c.in_ok-number.ensures.short));
      pieces = λ S is count inodes blocks placed.
          let its : ArePiecesOf (table inodes blocks) S c.args.article.now (get_or c.args.filed.now j []) number line =
          subst (λ (g : List ℕ). ArePiecesOf (table inodes blocks) S c.args.article.now g number line) names
          (subst (λ (text : List ℕ). ArePiecesOf (table inodes blocks) S text name number line) same
          (c.in_ok-number.ensures.pieces S is count inodes blocks placed)) in
          subst (λ (gs : List (List ℕ)). ArePieces (table inodes blocks) S c.args.article.now gs c.push.new.self.pieces.items)
          (sym (take_more c.args.filed.now j [] c.loop-name-test.true))
          (subst (λ (ps : List Piece). ArePieces (table inodes blocks) S c.args.article.now
          (take j c.args.filed.now ++ get_or c.args.filed.now j [] ∷ []) ps) (sym both)
          (pieces_more (table inodes blocks) S c.args.article.now (take j c.args.filed.now) pieces
          (get_or c.args.filed.now j []) number line (c.loop-name.invariant.pieces S is count inodes blocks placed) its));
      sizes = λ S is count inodes blocks placed.
          let its = subst (λ (text : List ℕ). ArePiecesOf (table inodes blocks) S text name number line) same
          (c.in_ok-number.ensures.pieces S is count inodes blocks placed) in
          sizes_more (λ k. length (next_line S c.args.article.now (get_or c.args.filed.now k []))) old c.push.new.self.sizes.items size j
          c.in_ok-push.ensures.sizes c.loop-name.invariant.count (c.loop-name.invariant.sizes S is count inodes blocks placed)
          (ap (λ (l : List ℕ). length l) its.line_is ∙ ap (λ (g : List ℕ). length (next_line S c.args.article.now g)) names);
    }

pub returns-clause-pieces : goal.returns-clause-pieces
returns-clause-pieces c = λ S is count inodes blocks placed.
    let j = c.loop-name.name-index in
    subst (λ (gs : List (List ℕ)). ArePieces (table inodes blocks) S c.args.article.now gs c.loop-name.lines.pieces.items)
    (take_all j c.args.filed.now (omega (arith, c.loop-name-test.false)))
    (c.loop-name.invariant.pieces S is count inodes blocks placed)
