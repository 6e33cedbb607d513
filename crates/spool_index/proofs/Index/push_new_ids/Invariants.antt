use Rattle.std.proofs.Common.{◌≡◌, ◌++◌}
use Rattle.model.specs.Stream.{Octets}
use Rattle.model.specs.Lawful.{IsLawful}
use Rattle.model.specs.Spool.{Spool}
use Rattle.spool_index.specs.View.{Indexes}
use Rattle.spool_index.proofs.Newest.{lines_up_to}
use Rattle.spool_index.proofs.Index.push_new_ids.Given as goal

-- the lines so far
abbrev pub invariant-loop-place : goal.invariant-loop-place
invariant-loop-place l = (host : Octets) (S : Spool) → IsLawful host S → Indexes S l.self
    → l.reply.items ≡ l.fn.reply.items ++ lines_up_to S l.wildmat l.from l.place
