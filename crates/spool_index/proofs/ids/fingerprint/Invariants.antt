use Rattle.std.proofs.Common.{◌≡◌, take}
use Rattle.spool_index.specs.Ids.{fingerprint}
use Rattle.spool_index.proofs.ids.fingerprint.Given as goal

abbrev pub invariant-loop-octet : goal.invariant-loop-octet
invariant-loop-octet l = l.print ≡ fingerprint (take l.octet-index l.id)
