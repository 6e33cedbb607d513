use Rattle.std.proofs.Common.{[], take, refl, arith}
use Rattle.server_delivering.proofs.Delivery.{appends_both, appends_nothing, kept}
use Rattle.server_delivering.proofs.socket_writing.write_once.Goals as goal

-- src/writing.rt:120:5
pub tries-init : goal.tries-init
tries-init g c = appends_nothing (g.W.Write.contents c.args.stream.now)

-- src/writing.rt:122:51
pub returns-in-Ok-clause-bytes : goal.returns-in-Ok-clause-bytes
returns-in-Ok-clause-bytes g c =
    appends_both (g.W.Write.contents c.args.stream.now) (g.W.Write.contents c.tries.stream) (g.W.Write.contents c.write.new.self)
    [] (take c.in-Ok.count c.args.octets.now) c.tries.invariant c.in-Ok.ensures.bytes

-- src/writing.rt:123:26
pub returns-in-Ok-2-clause-bytes : goal.returns-in-Ok-2-clause-bytes
returns-in-Ok-2-clause-bytes g c =
    appends_both (g.W.Write.contents c.args.stream.now) (g.W.Write.contents c.tries.stream) (g.W.Write.contents c.write.new.self)
    [] (take c.in-Ok.count c.args.octets.now) c.tries.invariant c.in-Ok.ensures.bytes

-- src/writing.rt:120:5
pub tries-preserved : goal.tries-preserved
tries-preserved g c =
    appends_both (g.W.Write.contents c.args.stream.now) (g.W.Write.contents c.tries.stream) (g.W.Write.contents c.write.new.self)
    [] [] c.tries.invariant
    (kept (g.W.Write.contents c.tries.stream) (g.W.Write.contents c.write.new.self) c.in-Err.ensures.bytes)

-- src/writing.rt:126:64
pub returns-in-WouldBlock-clause-bytes : goal.returns-in-WouldBlock-clause-bytes
returns-in-WouldBlock-clause-bytes g c =
    appends_both (g.W.Write.contents c.args.stream.now) (g.W.Write.contents c.tries.stream) (g.W.Write.contents c.write.new.self)
    [] [] c.tries.invariant
    (kept (g.W.Write.contents c.tries.stream) (g.W.Write.contents c.write.new.self) c.in-Err.ensures.bytes)

-- src/writing.rt:127:22
pub returns-in_default : goal.returns-in_default
returns-in_default g c = record {
  within = omega arith;
  whole = λ same. cc;
  none = λ same. refl;
  bytes =
      appends_both (g.W.Write.contents c.args.stream.now) (g.W.Write.contents c.tries.stream) (g.W.Write.contents c.write.new.self)
      [] [] c.tries.invariant
      (kept (g.W.Write.contents c.tries.stream) (g.W.Write.contents c.write.new.self) c.in-Err.ensures.bytes);
}
