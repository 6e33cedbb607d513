use Rattle.std.proofs.Common.{◌≡◌, ◌<◌, ℕ, [], get_or}
use Rattle.spool_admission.proofs.article_admission.are_same.Given as goal

-- those so far are
abbrev pub invariant-loop-i : goal.invariant-loop-i
invariant-loop-i l = (k : ℕ) → k < l.i → get_or l.names k [] ≡ get_or l.others k []
