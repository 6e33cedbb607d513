-- A device that is told to fail: nothing else changes.
use Rattle.std.proofs.Common.{◌≡◌, Bool, List, Option, sym, subst}
use Rattle.disk.specs.Device.{Device, IsUnchanged}
use Rattle.journal.specs.Journal.{JournalView}
use Rattle.kernel.specs.Kernel.{KernelView}
use Rattle.kernel_shared.specs.declared.ticket.Ticket.{Ticket}
use Rattle.world.specs.Fields.{IsSound}
use Rattle.world.specs.Tied.{Phase, Quiet, Flying, IsToBeTold}
use Rattle.world.specs.World.{News, WorldView}

-- the journal over another device
abbrev over : {D : Type 0} → JournalView D → D → JournalView D
over journal disk = record journal { disk = disk }

phase_over : {D : Type 0} (tells : Bool) (journal : JournalView D) (kernel : KernelView) (untold : List News) (disk : D)
    → Phase tells journal kernel untold → Phase tells (over journal disk) kernel untold
phase_over tells journal kernel untold disk (Quiet q) =
    Quiet (record { none = q.none; past = q.past; blocks = q.blocks; dirty = q.dirty; faults = q.faults; stopped = q.stopped })
phase_over tells journal kernel untold disk (Flying last f) =
    Flying last (record {
      flies = f.flies;
      last_is = f.last_is;
      waits = f.waits;
      size = f.size;
      before = f.before;
      after = f.after;
      more = f.more;
      dirty = f.dirty;
      faults = f.faults;
    })
phase_over tells journal kernel untold disk (IsToBeTold last c) =
    IsToBeTold last (record {
      flies = c.flies;
      past = c.past;
      blocks = c.blocks;
      more = c.more;
      dirty = c.dirty;
      running = c.running;
      later = c.later;
      told = c.told;
      faults = c.faults;
    })

pub sound_unchanged : {D : Type 0} (device : D → Device) (old : WorldView D) (new : JournalView D) (ticket : Option Ticket)
    → new ≡ record old.journal { disk = new.disk } → IsUnchanged (device old.journal.disk) (device new.disk)
    → IsSound (device old.journal.disk).tells old ticket
    → IsSound (device new.disk).tells (record { journal = new; served = old.served; untold = old.untold }) ticket
sound_unchanged {D} device old new ticket view same h =
    subst (λ (tells : Bool). IsSound tells (record { journal = new; served = old.served; untold = old.untold }) ticket) (sym same.tells)
    (subst (λ (journal : JournalView D). IsSound (device old.journal.disk).tells
    (record { journal = journal; served = old.served; untold = old.untold }) ticket) (sym view)
    (record {
      tied = record {
        label = h.tied.label;
        size = h.tied.size;
        format = h.tied.format;
        phase = phase_over (device old.journal.disk).tells old.journal old.served.kernel old.untold new.disk h.tied.phase;
      };
      flies = h.flies;
    }))
