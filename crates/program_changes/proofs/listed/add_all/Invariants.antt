use Rattle.std.proofs.Common.{take}
use Rattle.program_changes.specs.Listing.{HasAddedAll}
use Rattle.volume_store.specs.Saved.{GoesOn}
use Rattle.program_changes.proofs.listed.add_all.Given as goal

-- the lines so far
abbrev pub invariant-lines : goal.invariant-lines
invariant-lines g l =
    HasAddedAll l.fn.store.spool (take l.place l.listed) l.outcomes.items l.store.spool × GoesOn g.D.Disk.device l.fn.store l.store
