use Rattle.server_delivering.proofs.Delivery.{further, nothing}
use Rattle.server_delivering.proofs.socket_writing.write_on.Goals as goal

-- src/writing.rt:99:5
pub pieces-init : goal.pieces-init
pieces-init g c = nothing c.args.octets.now c.args.written.now (g.W.Write.contents c.args.stream.now)

-- src/writing.rt:106:13
pub returns-then-ne : goal.returns-then-ne
returns-then-ne g c =
    further c.args.octets.now c.args.written.now c.pieces.written c.write_piece-step.new.written
    (g.W.Write.contents c.args.stream.now) (g.W.Write.contents c.pieces.stream) (g.W.Write.contents c.write_piece-step.new.stream)
    c.pieces.invariant c.write_piece-step.ensures

-- src/writing.rt:99:5
pub pieces-preserved : goal.pieces-preserved
pieces-preserved g c =
    further c.args.octets.now c.args.written.now c.pieces.written c.write_piece-step.new.written
    (g.W.Write.contents c.args.stream.now) (g.W.Write.contents c.pieces.stream) (g.W.Write.contents c.write_piece-step.new.stream)
    c.pieces.invariant c.write_piece-step.ensures
