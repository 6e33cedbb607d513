-- Seats as their holders see them.
use Rattle.std.specs.Prelude.{◌≡◌, ℕ, Bool, false, List, []}
use Rattle.atomic_table.specs.Seated.{TableId}
use Rattle.server_mark.specs.Rule.{seen_of, told_of, after_stop_of, raised_of, stopped_of}
use Rattle.server_mark.specs.declared.steps.View.{View}

-- a caller's seat
pub record SeatView : Type 0 where
  -- which mark it is for
  pub mark : TableId
  -- the greatest number that it has seen
  pub seen : ℕ
  -- whether it has seen that the flusher has stopped
  pub told : Bool
  -- whether it had seen the stop before it saw that number
  pub after_stop : Bool

-- the flusher's seat
pub record FlushView : Type 0 where
  pub mark : TableId
  -- the numbers that it raised, in order
  pub raised : List ℕ
  pub stopped : Bool

abbrev pub caller_of : TableId → View → SeatView
caller_of mark view = record { mark = mark; seen = seen_of view; told = told_of view; after_stop = after_stop_of view }

abbrev pub flusher_of : TableId → View → FlushView
flusher_of mark view = record { mark = mark; raised = raised_of view; stopped = stopped_of view }

-- a new mark and its first seats: nothing was raised, and the flusher has not stopped
pub record IsNew (mark : TableId) (flush : FlushView) (seat : SeatView) : Type 0 where
  pub flush_is : flush ≡ record { mark = mark; raised = []; stopped = false }
  pub seat_is : seat ≡ record { mark = mark; seen = 0; told = false; after_stop = false }
