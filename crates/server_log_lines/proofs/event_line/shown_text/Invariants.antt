use Rattle.std.proofs.Common.{◌≡◌, map, take}
use Rattle.server_log_lines.specs.Line.{shown}
use Rattle.server_log_lines.proofs.event_line.shown_text.Given as goal

-- the octets so far are shown
abbrev pub invariant-loop-octet : goal.invariant-loop-octet
invariant-loop-octet l = l.line.items ≡ map shown (take l.octet-index l.text)
