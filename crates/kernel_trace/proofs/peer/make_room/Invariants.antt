use Rattle.kernel_trace.proofs.Room.{MakesRoom}
use Rattle.kernel_trace.proofs.peer.make_room.Given as goal

abbrev pub invariant-loop-place : goal.invariant-loop-place
invariant-loop-place l = MakesRoom l.kernel.seats l.fn.peers.items l.peers.items l.place
