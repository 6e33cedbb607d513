use Rattle.std.proofs.Common.{◌*◌}
use Rattle.journal_loading.proofs.Loads.{AreLoaded}
use Rattle.journal_loading.proofs.loading.load_all.Given as goal

abbrev pub invariant-loop-number : goal.invariant-loop-number
invariant-loop-number g l =
    AreLoaded g.D.Disk.device (l.number * 256) l.initial.cache.blocks l.cache.blocks l.initial.journal l.journal
