use Rattle.kernel_trace.proofs.Room.{Files}
use Rattle.kernel_trace.proofs.peer.file.Given as goal

abbrev pub invariant-loop-index : goal.invariant-loop-index
invariant-loop-index l = Files l.ready l.fn.peers.items l.peers.items l.index
