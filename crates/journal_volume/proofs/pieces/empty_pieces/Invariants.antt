use Rattle.std.proofs.Common.{◌≡◌, [], replicate}
use Rattle.journal_volume.specs.Pieces.{octets_of}
use Rattle.journal_volume.proofs.pieces.empty_pieces.Given as goal

abbrev pub invariant-loop-i : goal.invariant-loop-i
invariant-loop-i l = octets_of l.pieces.items ≡ replicate l._i []
