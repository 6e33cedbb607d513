-- The order of the device calls of a batch: descriptor, n images, sync, gate, and the sync that commits. If another
-- closed segment is left, the batch has ended. Otherwise each open segment is carried home: its home blocks, segment
-- after segment in rising number, and one sync. If every segment of the volume is open, the other epoch and a sync then
-- close all of them; else a 0 at its gate and a sync close each, one after the other.
use Rattle.std.specs.Prelude.{◌≡◌, ◌==◌, ℕ, ◌+◌, ◌*◌, ◌%◌, ◌^◌, Bool, true, false, if◌then◌else◌, List, length, slice_index, sum, take}
use Rattle.journal.specs.declared.Progress.{Progress}
use Rattle.journal.specs.declared.Progress.TheVariants.{Working, Committed, Idle as Ended}
use Rattle.journal.specs.declared.Next.{Next}
use Rattle.journal.specs.declared.Next.TheVariants.{Idle, Descriptor, Image, Seal, OpenGate, Commit, Home, Settle, Close, Finish}

-- What a batch carries home: the number of images of each open segment, none if another closed segment is left; and
-- whether these are all segments of the volume, so that the epoch closes them at once.
pub record Carried : Type 0 where
  pub counts : List ℕ
  pub are_all : Bool

-- the number of writes that close the segments which were carried home; a sync comes after each
abbrev pub closings : Carried → ℕ
closings carried = if length carried.counts == 0 then 0 else (if carried.are_all then 1 else length carried.counts)

-- the call after a good one, in a batch of n images
abbrev pub following : ℕ → Carried → Next → Next
following n carried Idle = Idle
following n carried Descriptor = Image 0
following n carried (Image i) = if i + 1 == n then Seal else Image (i + 1)
following n carried Seal = OpenGate
following n carried OpenGate = Commit
following n carried Commit = if length carried.counts == 0 then Idle else Home 0 0
following n carried (Home j i) =
    if i + 1 == slice_index carried.counts j then (if j + 1 == length carried.counts then Settle else Home (j + 1) 0) else Home j (i + 1)
following n carried Settle = Close 0
following n carried (Close j) = Finish j
following n carried (Finish j) = if j + 1 == closings carried then Idle else Close (j + 1)

-- whether the next call is a sync; any other one is a write
abbrev pub is_sync : Next → Bool
is_sync Seal = true
is_sync Commit = true
is_sync Settle = true
is_sync (Finish j) = true
is_sync next = false

-- the next call after a fault: a failed write may have written its octets, and a failed sync did nothing
abbrev pub at_fault : ℕ → Carried → Next → Next
at_fault n carried next = if is_sync next then next else following n carried next

-- whether the batch that makes this call is still to be committed
abbrev pub is_to_commit : Next → Bool
is_to_commit Descriptor = true
is_to_commit (Image i) = true
is_to_commit Seal = true
is_to_commit OpenGate = true
is_to_commit Commit = true
is_to_commit next = false

-- the number of calls of a batch
abbrev pub all_calls : ℕ → Carried → ℕ
all_calls n carried = if length carried.counts == 0 then n + 4 else n + 5 + sum carried.counts + 2 * closings carried

-- the number of them that were made when this call is the next one
abbrev pub calls_made : ℕ → Carried → Next → ℕ
calls_made n carried Idle = all_calls n carried
calls_made n carried Descriptor = 0
calls_made n carried (Image i) = 1 + i
calls_made n carried Seal = n + 1
calls_made n carried OpenGate = n + 2
calls_made n carried Commit = n + 3
calls_made n carried (Home j i) = n + 4 + sum (take j carried.counts) + i
calls_made n carried Settle = n + 4 + sum carried.counts
calls_made n carried (Close j) = n + 5 + sum carried.counts + 2 * j
calls_made n carried (Finish j) = n + 6 + sum carried.counts + 2 * j

-- the numbers of writes and of syncs among these
abbrev pub writes_made : ℕ → Carried → Next → ℕ
writes_made n carried Idle = n + 2 + sum carried.counts + closings carried
writes_made n carried Descriptor = 0
writes_made n carried (Image i) = 1 + i
writes_made n carried Seal = n + 1
writes_made n carried OpenGate = n + 1
writes_made n carried Commit = n + 2
writes_made n carried (Home j i) = n + 2 + sum (take j carried.counts) + i
writes_made n carried Settle = n + 2 + sum carried.counts
writes_made n carried (Close j) = n + 2 + sum carried.counts + j
writes_made n carried (Finish j) = n + 3 + sum carried.counts + j

abbrev pub syncs_made : Carried → Next → ℕ
syncs_made carried Idle = if length carried.counts == 0 then 2 else 3 + closings carried
syncs_made carried Descriptor = 0
syncs_made carried (Image i) = 0
syncs_made carried Seal = 0
syncs_made carried OpenGate = 1
syncs_made carried Commit = 1
syncs_made carried (Home j i) = 2
syncs_made carried Settle = 2
syncs_made carried (Close j) = 3 + j
syncs_made carried (Finish j) = 3 + j

-- n more, in a counter that wraps around like a u64
abbrev pub IsMore : ℕ → ℕ → ℕ → Type 0
IsMore n old new = new % 2 ^ 64 ≡ (old + n) % 2 ^ 64

-- whether a device takes memory for the next call
abbrev pub is_growing : Next → Bool → Bool → Bool
is_growing next write_grows sync_grows = if is_sync next then sync_grows else write_grows

-- the answer to a good call
abbrev pub answer : ℕ → Carried → Next → Progress
answer last carried Commit = Committed last
answer last carried (Finish j) = if j + 1 == closings carried then Ended else Working
answer last carried next = Working
