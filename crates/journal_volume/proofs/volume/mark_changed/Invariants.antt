use Rattle.journal_volume.proofs.Marked.{IsMarked}
use Rattle.journal_volume.proofs.volume.mark_changed.Given as goal

abbrev pub invariant-loop-place : goal.invariant-loop-place
invariant-loop-place l = IsMarked l.place l.blocks.blocks l.numbers l.octets l.initial.dirty l.dirty
