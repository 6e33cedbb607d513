use Rattle.std.proofs.Common.{◌≡◌, ◌++◌, ◌≤◌, length}
use Rattle.session_replies.specs.Stuffing.{after, stuffed_from}
use Rattle.session_replies.proofs.stuffing.Stuffing.push.Given as goal

-- what was sent, and what the rest sends
abbrev pub invariant-loop-place : goal.invariant-loop-place
invariant-loop-place l = record {
  sent : l.reply.items ++ stuffed_from l.state l.rest ≡ l.initial.reply.items ++ stuffed_from l.self l.piece;
  state : after l.state l.rest ≡ after l.self l.piece;
  short : length l.rest ≤ length l.piece;
}

abbrev pub decreases-loop-place : goal.decreases-loop-place
decreases-loop-place l = length l.rest
