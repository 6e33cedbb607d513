-- What the fields of a queue and of a buffer mean.
use Rattle.std.specs.Prelude.{◌≡◌, ℕ, ◌-◌, ◌≤◌, Bool, List, ◌++◌, length, All, vec_len, vec_capacity}
use Rattle.std.specs.VecDeque.{deque_len, deque_capacity}
use Rattle.kernel_outbox.specs.Lines.{QueueView, Reply, octets_waiting}
use Rattle.kernel_outbox.specs.Queue.{HeldOutput, Giving, ReadyEntry, octets_along, octets_in}
use Rattle.kernel_outbox.specs.declared.queue.Queue.TheInside as queue
use Rattle.kernel_outbox.specs.Outgoing.{IsSound, outgoing}
use Rattle.kernel_outbox.specs.declared.outgoing.Outgoing.TheInside as reply
use Rattle.kernel_outbox.specs.declared.ready.ReadyBuf.TheInside as buffer
use Rattle.kernel_outbox.specs.Slots.{LiesWithin, entries_in}

abbrev pub queue_of : queue.Inside → QueueView
queue_of q = record { given = q.given; held = q.outputs.items; room = deque_capacity q.outputs - deque_len q.outputs }

-- the queue counts the octets that it holds
abbrev pub IsSoundQueue : queue.Inside → Type 0
IsSoundQueue q = q.buffered ≡ octets_waiting q.outputs.items

abbrev pub reply_in : reply.Inside → Reply
reply_in r = outgoing r.octets.items r.start r.rest

abbrev pub IsSoundReply : reply.Inside → Type 0
IsSoundReply r = IsSound (vec_capacity r.octets) r.octets.items r.start r.rest

abbrev pub entries_of : buffer.Inside → List ReadyEntry
entries_of b = entries_in b.octets.items b.slots.items

-- the entries' octets are those of the buffer, in order, and there is room for a release
pub record IsSoundBuffer (b : buffer.Inside) : Type 0 where
  pub within : All (LiesWithin (length b.octets.items)) b.slots.items
  pub along : octets_along (entries_of b) ≡ b.octets.items
  pub counted : octets_in (entries_of b) ≡ length b.octets.items
  pub octets : vec_len b.octets ≤ 65_536
  pub octet_room : 65_536 ≤ vec_capacity b.octets
  pub few : vec_len b.slots ≤ 4096
  pub room : 4096 ≤ vec_capacity b.slots

-- what the loop over the first outputs leaves: of the outputs, and after the octets that were already there
pub record IsGiven (g : Giving) (ended : Bool) (given : ℕ) (held : List HeldOutput) (before after : List ℕ) : Type 0 where
  pub ended_is : ended ≡ g.ended
  pub given_is : given ≡ g.given
  pub held_is : held ≡ g.held
  pub octets_are : after ≡ before ++ g.octets
