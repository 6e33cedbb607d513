use Rattle.std.proofs.Common.{◌≡◌, length}
use Rattle.std.specs.Io.KnownBytes.{Keeps}
use Rattle.server_operator_lines.proofs.line_reader.next_octet.Given as goal

abbrev pub invariant-tries : goal.invariant-tries
invariant-tries g l = (length l.octet ≡ 1) × Keeps (g.L.Read.remaining l.initial.lines) (g.L.Read.remaining l.lines)
