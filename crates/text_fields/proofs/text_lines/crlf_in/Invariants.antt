use Rattle.std.proofs.Common.{◌-◌, length}
use Rattle.text_fields.proofs.LineLaws.{NoneEndsBefore}
use Rattle.text_fields.proofs.text_lines.crlf_in.Given as goal

-- no CRLF ends in what was searched
abbrev pub invariant-loop-place : goal.invariant-loop-place
invariant-loop-place l = NoneEndsBefore l.text l.from

abbrev pub decreases-loop-place : goal.decreases-loop-place
decreases-loop-place l = length l.text - l.from
