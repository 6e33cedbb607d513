-- What a journal has in memory of its segments, and what stays so during the calls of a batch.
use Rattle.std.specs.Prelude.{ℕ, zero, suc, ◌==◌, Bool, false, true, if◌then◌else◌, List, [], ◌∷◌, ◌++◌, drop, length, map, slice_index_or}
use Rattle.std.specs.Prelude.{take}
use Rattle.journal_laws.specs.Held.{HeldBatch}
use Rattle.model.specs.Volume.{gate_place}
use Rattle.journal_segments.specs.Staged.{Staged, held_as, staged_at}
use Rattle.journal.specs.Order.{Carried}

abbrev pub none_held : HeldBatch
none_held = record { place = 0; batch = record { number = 0; last = 0; numbers = []; images = [] } }

abbrev pub held_at : List HeldBatch → ℕ → HeldBatch
held_at held j = slice_index_or held j none_held

-- what stays as it is during the calls of a batch: the number of segments of the volume; the segments that were open
-- before, in rising number; the segment that the batch is written into; and whether no other closed segment is left
pub record Flight : Type 0 where
  pub segments : ℕ
  pub held : List HeldBatch
  pub batch : Staged
  pub is_last : Bool

-- the segments that are open once the batch is committed
abbrev pub all_of : Flight → List HeldBatch
all_of flight = flight.held ++ held_as flight.batch ∷ []

-- the segments that are open once the batch has ended: none if no other closed one was left, since all were carried
-- home
abbrev pub left_of : Flight → List HeldBatch
left_of flight = if flight.is_last then [] else all_of flight

-- the number of images of each segment, and what is carried home of these in a volume of so many segments
abbrev pub counts_of : List HeldBatch → List ℕ
counts_of held = map (λ h. length h.batch.numbers) held

abbrev pub carried_of : ℕ → List HeldBatch → Carried
carried_of segments held = record { counts = counts_of held; are_all = length held == segments }

-- no closed segment is left beside these, so the epoch closes all of them at once
abbrev pub are_all : Flight → Bool
are_all flight = length (all_of flight) == flight.segments

-- the segments that are open after this many writes which close: the epoch closes all, and a gate the next one
abbrev pub left_open : Bool → ℕ → List HeldBatch → List HeldBatch
left_open false j held = drop j held
left_open true zero held = held
left_open true (suc j) held = []

-- the block that such a write is in: the superblock, or the gate of the next segment
abbrev pub closing_block : Bool → ℕ → List HeldBatch → ℕ
closing_block false j held = gate_place (held_at held j).place
closing_block true j held = 0

-- nothing is carried home while another closed segment is left
abbrev pub none_carried : Carried
none_carried = record { counts = []; are_all = false }

abbrev pub sizes_of : Flight → Carried
sizes_of flight = if flight.is_last then carried_of flight.segments (all_of flight) else none_carried

-- the batch in the segment with this index, while the segments before it are open
abbrev pub flight_in : List Staged → ℕ → Bool → Flight
flight_in room filled is_last = record {
  segments = length room;
  held = map held_as (take filled room);
  batch = staged_at room filled;
  is_last = is_last;
}
