use Rattle.journal_volume.proofs.Keeping.{IsKeeping}
use Rattle.journal_volume.proofs.volume.keep_parts.Given as goal

abbrev pub invariant-loop-number : goal.invariant-loop-number
invariant-loop-number l =
    IsKeeping l.first l.end l.number l.blocks.blocks l.initial.kept l.initial.octets.items l.kept l.octets.items
