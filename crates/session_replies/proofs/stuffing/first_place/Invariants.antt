use Rattle.memchr.specs.Find.{Nowhere, Passes, is_byte}
use Rattle.session_replies.proofs.stuffing.first_place.Given as goal

abbrev pub invariant-loop-place : goal.invariant-loop-place
invariant-loop-place l = Nowhere (Passes (is_byte l.octet) l.octets) 0 l.place
