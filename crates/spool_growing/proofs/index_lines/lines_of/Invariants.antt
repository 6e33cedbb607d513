use Rattle.std.proofs.Common.{◌≡◌, ◌+◌, ◌<◌, ◌^◌, ℕ, List, [], get_or, length, take}
use Rattle.std.specs.List.{All}
use Rattle.model.specs.Files.{table}
use Rattle.model.specs.Indexed.{ArePlaces}
use Rattle.model.specs.Spool.{Spool}
use Rattle.model.specs.FileCalls.{next_line}
use Rattle.spool_index.specs.View.{Indexes}
use Rattle.spool_growing.specs.Articles.{ArePieces}
use Rattle.spool_growing.proofs.index_lines.lines_of.Given as goal

-- what the article adds to the groups so far
abbrev pub invariant-loop-name : goal.invariant-loop-name
invariant-loop-name l = record {
  count : length l.lines.sizes.items ≡ l.name-index;
  small : All (λ n. n < 2 ^ 32) l.lines.sizes.items;
  pieces : (S : Spool) → Indexes S l.index → l.serial ≡ length S + 1 → (inodes : ℕ) (blocks : List (List ℕ))
      → ArePlaces inodes blocks S l.places → ArePieces (table inodes blocks) S l.article (take l.name-index l.filed) l.lines.pieces.items;
  sizes : (S : Spool) → Indexes S l.index → l.serial ≡ length S + 1 → (inodes : ℕ) (blocks : List (List ℕ))
      → ArePlaces inodes blocks S l.places → (k : ℕ) → k < l.name-index
      → get_or l.lines.sizes.items k 0 ≡ length (next_line S l.article (get_or l.filed k []));
}
