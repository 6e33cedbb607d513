use Rattle.std.proofs.Common.{◌≡◌, length}
use Rattle.std.specs.Io.KnownBytes.{Keeps}
use Rattle.server_answering.proofs.caller_reading.Incoming.read.Given as goal

abbrev pub invariant-reads : goal.invariant-reads
invariant-reads g l =
    Keeps (g.S.Read.remaining l.initial.self.stream) (g.S.Read.remaining l.self.stream) × (length l.piece ≡ length l.initial.piece)
