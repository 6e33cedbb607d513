use Rattle.std.proofs.Common.{◌≡◌, ◌≤◌, ◌-◌, ℕ, length, take, List}
use Rattle.disk.specs.Image.{overwritten}
use Rattle.model.specs.Files.{content_of, entry}
use Rattle.fs_inodes.specs.Changes.{ReplacesContent, SameMarks}
use Rattle.fs_layout.specs.Touches.{SameBut}
use Rattle.fs_layout.proofs.Touching.{Reached}
use Rattle.fs_inodes.proofs.file_writing.overwrite.Given as goal

-- so many of the octets stand in the file
pub record Wrote (inodes at place done : ℕ) (octets : List ℕ) (old new : List (List ℕ)) : Type 0 where
  pub within : done ≤ length octets
  pub replaced : ReplacesContent inodes at (overwritten place (take done octets) (content_of old (entry inodes old at))) old new
  pub marks : SameMarks old new
  pub blocks : List ℕ
  pub touched : SameBut blocks old new
  pub reached : Reached place done (length octets) (length blocks)

abbrev pub invariant-loop-done : goal.invariant-loop-done
invariant-loop-done g l =
    Wrote l.inodes l.at l.place l.done l.octets (g.B.Blocks.blocks l.initial.blocks) (g.B.Blocks.blocks l.blocks)
    × (g.B.Blocks.applied l.blocks ≡ g.B.Blocks.applied l.initial.blocks)

abbrev pub decreases-loop-done : goal.decreases-loop-done
decreases-loop-done g l = length l.octets - l.done
