use Rattle.volume_importing.specs.Imported.{Imports}
use Rattle.volume_store.specs.Saved.{GoesOn}
use Rattle.volume_importing.proofs.batch_filing.file_ready.Given as goal

abbrev pub invariant-texts : goal.invariant-texts
invariant-texts g l =
    Imports l.initial.store.spool l.store.spool l.initial.batch.reader.unread l.batch.reader.unread l.initial.batch.counts l.batch.counts
    × GoesOn g.D.Disk.device l.initial.store l.store
