use Rattle.std.proofs.Common.{◌≡◌, ◌≤◌, ◌-◌, ◌++◌, ℕ, List, vec_len, vec_capacity}
use Rattle.model.specs.Files.{content_of, entry}
use Rattle.model.specs.Indexed.{line_start}
use Rattle.model.specs.Stream.{Octets}
use Rattle.spool_groups.specs.Shown.{shown}
use Rattle.spool_texts.specs.Texts.{IsRun, lines_from}
use Rattle.spool_texts.proofs.overview_parts.append_lines.Given as goal

-- the lines so far, and what is borrowed of the next ones
pub record Made (content : Octets) (ends : List ℕ) (first next end at : ℕ) (borrowed old octets : Octets) : Type 0 where
  pub low : first ≤ next
  pub high : next ≤ end
  pub lines : octets ≡ old ++ lines_from content ends (first - 1) (next - first)
  pub behind : at ≤ line_start ends (next - 1)
  pub is_run : IsRun content at borrowed

abbrev pub invariant-loop-next : goal.invariant-loop-next
invariant-loop-next g l = record {
  so_far : Made (content_of (g.B.Blocks.blocks l.blocks) (entry l.inodes (g.B.Blocks.blocks l.blocks) l.inode)) (shown l.group).ends
      l.lines.next l.next l.lines.end l.at l.run l.fn.octets.items l.octets.items;
  bound : vec_len l.octets ≤ 73_729;
  capacity : vec_capacity l.fn.octets ≤ vec_capacity l.octets;
}

abbrev pub decreases-loop-next : goal.decreases-loop-next
decreases-loop-next g l = l.lines.end - l.next
