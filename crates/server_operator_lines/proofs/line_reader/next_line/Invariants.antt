use Rattle.std.proofs.Common.{ℕ, List, vec_items}
use Rattle.std.specs.Io.KnownBytes.{Consumes}
use Rattle.server_operator_lines.proofs.Ended.{Held}
use Rattle.server_operator_lines.proofs.line_reader.next_line.Given as goal

abbrev pub invariant-octets : goal.invariant-octets
invariant-octets g l =
    (read : List ℕ) × Consumes (g.L.Read.remaining l.initial.lines) (g.L.Read.remaining l.lines) read
    × Held read (vec_items l.line) l.is_long
