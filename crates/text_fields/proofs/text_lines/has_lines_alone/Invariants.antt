use Rattle.std.proofs.Common.{◌≡◌, ◌&&◌, drop}
use Rattle.text_fields.specs.Whole.{ends_whole}
use Rattle.text_fields.proofs.text_lines.has_lines_alone.Given as goal

-- the octets so far, and those left
abbrev pub invariant-loop-octet : goal.invariant-loop-octet
invariant-loop-octet l = (l.is_whole && ends_whole l.before (drop l.octet-index l.text)) ≡ ends_whole 0 l.text
