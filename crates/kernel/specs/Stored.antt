-- The kernel's view, from the parts that it has.
use Rattle.std.specs.Prelude.{ℕ, Bool, List, Option}
use Rattle.spool_texts.specs.Parts.{HasLines, lines_of}
use Rattle.spool.specs.View.{SpoolView}
use Rattle.kernel.specs.Kept.{IsKept}
use Rattle.kernel.specs.Kernel.{KernelView}
use Rattle.kernel_seats.specs.Lined.{AllAreLined, LinedSeat, all_seen}
use Rattle.kernel_seats.specs.Seats.{Seat}

abbrev pub kernel_of : SpoolView → ℕ → Option ℕ → Bool → ℕ → ℕ → List Seat → KernelView
kernel_of s durable in_flight halted most joined seats =
    record {
      host = s.host;
      inodes = s.inodes;
      spool = s.changes;
      blocks = s.blocks;
      dirty = s.dirty;
      durable = durable;
      in_flight = in_flight;
      halted = halted;
      most = most;
      joined = joined;
      seats = seats;
    }

-- the same, of sessions as they are kept: they are seen with their lines made by the spool
abbrev pub seen_kernel : SpoolView → ℕ → Option ℕ → Bool → ℕ → ℕ → List LinedSeat → KernelView
seen_kernel s durable in_flight halted most joined seats =
    kernel_of s durable in_flight halted most joined (all_seen (lines_of s.changes) seats)

-- what the lock keeps of these parts: what callers see is kept, and the spool has the lines that the sessions hold
pub record AreKept (s : SpoolView) (durable : ℕ) (in_flight : Option ℕ) (halted : Bool) (most joined : ℕ)
    (seats : List LinedSeat) : Type 0 where
  pub seen : IsKept (seen_kernel s durable in_flight halted most joined seats)
  pub lined : AllAreLined (HasLines s.changes) seats
