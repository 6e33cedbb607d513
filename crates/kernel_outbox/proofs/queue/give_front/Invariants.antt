use Rattle.std.proofs.Common.{◌≡◌, ◌-◌, ◌≤◌, length, vec_len, vec_capacity}
use Rattle.std.specs.VecDeque.{deque_len, deque_capacity}
use Rattle.kernel_outbox.specs.Lines.{AllAreKept, outputs_of}
use Rattle.kernel_outbox.specs.Queue.{give}
use Rattle.kernel_outbox.proofs.LoopLaws.{GoesOn}
use Rattle.kernel_outbox.proofs.queue.give_front.Given as goal

-- what is still to be given goes on from what was given
abbrev pub invariant-loop-front : goal.invariant-loop-front
invariant-loop-front g l = record {
  goes_on : GoesOn (give l.durable (65_536 - length l.fn.octets.items) l.fn.given
      (outputs_of (g.S.Source.octets_of l.source) l.fn.outputs.items))
      (give l.durable (65_536 - length l.octets.items) l.given (outputs_of (g.S.Source.octets_of l.source) l.outputs.items))
      l.fn.octets.items l.octets.items l.ended;
  kept : AllAreKept (g.S.Source.keeps l.source) l.outputs.items;
  bound : vec_len l.octets ≤ 65_536;
  room : 65_536 ≤ vec_capacity l.octets;
  capacity : deque_capacity l.outputs ≡ deque_capacity l.fn.outputs;
}

abbrev pub decreases-loop-front : goal.decreases-loop-front
decreases-loop-front g l = deque_len l.outputs
