use Rattle.std.proofs.Common.{◌≡◌, ◌⊎◌, ◌≤◌, ◌-◌, ◌++◌, ℕ, take, drop, List}
use Rattle.model.specs.Files.{content_of, entry}
use Rattle.fs_inodes.proofs.file_reading.read_into.Given as goal

pub record Read (place from end : ℕ) (old octets content : List ℕ) : Type 0 where
  pub from_place : place ≤ from
  pub to_end : (from ≡ place) ⊎ (from ≤ end)
  pub octets_are : octets ≡ old ++ take (from - place) (drop place content)

abbrev pub invariant-loop-from : goal.invariant-loop-from
invariant-loop-from g l = Read l.place l.from l.end l.initial.into.items l.into.items
    (content_of (g.B.Blocks.blocks l.blocks) (entry l.inodes (g.B.Blocks.blocks l.blocks) l.at))

abbrev pub decreases-loop-from : goal.decreases-loop-from
decreases-loop-from g l = l.end - l.from
