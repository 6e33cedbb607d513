use Rattle.std.proofs.Common.{[]}
use Rattle.std.specs.Io.KnownBytes.{Appends}
use Rattle.server_delivering.proofs.socket_writing.write_once.Given as goal

abbrev pub invariant-tries : goal.invariant-tries
invariant-tries g l = Appends (g.W.Write.contents l.fn.stream) (g.W.Write.contents l.stream) []
