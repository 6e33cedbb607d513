use Rattle.std.proofs.Common.{◌≡◌, ◌+◌, ◌<◌, ◌^◌, ℕ, [], get_or, length}
use Rattle.std.specs.List.{All}
use Rattle.model.specs.Files.{table}
use Rattle.model.specs.Spool.{Spool}
use Rattle.model.specs.FileCalls.{next_line}
use Rattle.spool_index.specs.View.{Indexes}
use Rattle.spool_opening.specs.Replayed.{AreHere}
use Rattle.spool_opening.specs.Stored.{HasPiece, Which, file_for, name_for, piece_for}
use Rattle.spool_opening.proofs.continued_lines.line_sizes.Given as goal

-- the groups so far go on with the article, and these are the sizes of their lines
abbrev pub invariant-loop-name : goal.invariant-loop-name
invariant-loop-name g l = record {
  count : length l.sizes.items ≡ l.name-index;
  small : All (λ n. n < 2 ^ 32) l.sizes.items;
  pieces : (S : Spool) → Indexes S l.index → l.serial ≡ length S + 1 → AreHere S l.here → (k : ℕ) (w : Which) → k < l.name-index
      → HasPiece (table l.inodes (g.B.Blocks.blocks l.blocks)) (name_for w (get_or l.here k []))
      (length (file_for w S (get_or l.here k []))) (piece_for w S l.article (get_or l.here k []));
  sizes : (S : Spool) → Indexes S l.index → l.serial ≡ length S + 1 → AreHere S l.here → (k : ℕ) → k < l.name-index
      → get_or l.sizes.items k 0 ≡ length (next_line S l.article (get_or l.here k []));
}
