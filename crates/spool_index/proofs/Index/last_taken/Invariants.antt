use Rattle.std.proofs.Common.{◌≡◌, map, take}
use Rattle.model.specs.Stream.{Octets}
use Rattle.model.specs.Lawful.{IsLawful}
use Rattle.model.specs.Spool.{Spool, expired_at, greatest}
use Rattle.spool_index.specs.Finding.{number_upto}
use Rattle.spool_index.specs.View.{Indexes}
use Rattle.spool_index.proofs.Index.last_taken.Given as goal

abbrev pub invariant-loop-name : goal.invariant-loop-name
invariant-loop-name l = (host : Octets) (S : Spool) → IsLawful host S → Indexes S l.self
    → l.last ≡ greatest (map (λ g. expired_at S g (number_upto S g l.serial)) (take l.name-index l.groups))
