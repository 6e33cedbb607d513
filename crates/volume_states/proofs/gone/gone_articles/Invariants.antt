use Rattle.spool_index.specs.View.{Indexes}
use Rattle.model.specs.Lawful.{IsLawful}
use Rattle.model.specs.Spool.{Spool}
use Rattle.model.specs.Stream.{Octets}
use Rattle.volume_states.specs.Gone.{IsGoneUpTo}
use Rattle.volume_states.proofs.gone.gone_articles.Given as goal

-- of the changes so far
abbrev pub invariant-loop-before : goal.invariant-loop-before
invariant-loop-before l = (host : Octets) (S : Spool) → IsLawful host S → Indexes S l.index → IsGoneUpTo S l.before l.gone
