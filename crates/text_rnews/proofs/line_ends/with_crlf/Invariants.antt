use Rattle.std.proofs.Common.{◌≡◌, ◌++◌, drop}
use Rattle.text_rnews.specs.LineEnds.{with_crlf_after}
use Rattle.text_rnews.proofs.line_ends.with_crlf.Given as goal

-- the text so far, and that of the octets left
abbrev pub invariant-loop-octet : goal.invariant-loop-octet
invariant-loop-octet l = l.text.items ++ with_crlf_after l.before (drop l.octet-index l.octets) ≡ with_crlf_after 0 l.octets
