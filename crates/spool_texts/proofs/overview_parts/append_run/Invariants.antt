use Rattle.std.proofs.Common.{◌≡◌, ◌≤◌, ◌+◌, ◌-◌, ◌++◌, ℕ, take, drop, List, vec_len, vec_capacity}
use Rattle.model.specs.Files.{content_of, entry}
use Rattle.spool_texts.proofs.overview_parts.append_run.Given as goal

-- what was appended so far
pub record Appended (start from stop : ℕ) (old octets content : List ℕ) : Type 0 where
  pub low : start ≤ from
  pub high : from ≤ stop
  pub octets_are : octets ≡ old ++ take (from - start) (drop start content)

abbrev pub invariant-loop-from : goal.invariant-loop-from
invariant-loop-from g l = record {
  so_far : Appended l.start l.from l.stop l.fn.octets.items l.octets.items
      (content_of (g.B.Blocks.blocks l.blocks) (entry l.inodes (g.B.Blocks.blocks l.blocks) l.inode));
  len : vec_len l.octets ≡ vec_len l.fn.octets + (l.from - l.start);
  capacity : vec_capacity l.fn.octets ≤ vec_capacity l.octets;
}

abbrev pub decreases-loop-from : goal.decreases-loop-from
decreases-loop-from g l = l.stop - l.from
