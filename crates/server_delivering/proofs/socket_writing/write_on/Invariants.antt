use Rattle.server_delivering.specs.Delivery.{Wrote}
use Rattle.server_delivering.proofs.socket_writing.write_on.Given as goal

abbrev pub invariant-pieces : goal.invariant-pieces
invariant-pieces g l = Wrote l.octets l.fn.written l.written (g.W.Write.contents l.fn.stream) (g.W.Write.contents l.stream)
