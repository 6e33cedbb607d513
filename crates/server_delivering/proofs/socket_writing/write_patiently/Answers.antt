use Rattle.server_delivering.proofs.Delivery.{further, nothing}
use Rattle.server_delivering.proofs.socket_writing.write_patiently.Goals as goal

-- src/writing.rt:72:5
pub waits-init : goal.waits-init
waits-init g c = nothing c.args.octets.now c.args.written.now (g.W.Write.contents c.args.stream.now)

-- src/writing.rt:76:13
pub returns-then-ne-clause-wrote : goal.returns-then-ne-clause-wrote
returns-then-ne-clause-wrote g c =
    further c.args.octets.now c.args.written.now c.waits.written c.write_on-step.new.written
    (g.W.Write.contents c.args.stream.now) (g.W.Write.contents c.waits.stream) (g.W.Write.contents c.write_on-step.new.stream)
    c.waits.invariant c.write_on-step.ensures

-- src/writing.rt:84:13
pub returns-then-idle-ge-WAITS-clause-wrote : goal.returns-then-idle-ge-WAITS-clause-wrote
returns-then-idle-ge-WAITS-clause-wrote g c =
    further c.args.octets.now c.args.written.now c.waits.written c.write_on-step.new.written
    (g.W.Write.contents c.args.stream.now) (g.W.Write.contents c.waits.stream) (g.W.Write.contents c.write_on-step.new.stream)
    c.waits.invariant c.write_on-step.ensures

pub returns-then-is_too_slow-clause-wrote : goal.returns-then-is_too_slow-clause-wrote
returns-then-is_too_slow-clause-wrote g c =
    further c.args.octets.now c.args.written.now c.waits.written c.write_on-step.new.written
    (g.W.Write.contents c.args.stream.now) (g.W.Write.contents c.waits.stream) (g.W.Write.contents c.write_on-step.new.stream)
    c.waits.invariant c.write_on-step.ensures

-- src/writing.rt:72:5
pub waits-preserved : goal.waits-preserved
waits-preserved g c =
    further c.args.octets.now c.args.written.now c.waits.written c.write_on-step.new.written
    (g.W.Write.contents c.args.stream.now) (g.W.Write.contents c.waits.stream) (g.W.Write.contents c.write_on-step.new.stream)
    c.waits.invariant c.write_on-step.ensures
