use Rattle.journal_volume.proofs.Exchanged.{IsExchanged}
use Rattle.journal_volume.proofs.volume.exchange_parts.Given as goal

abbrev pub invariant-loop-place : goal.invariant-loop-place
invariant-loop-place l = IsExchanged l.place l.numbers l.initial.blocks l.blocks l.initial.octets l.octets
