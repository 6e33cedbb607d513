use Rattle.std.proofs.Common.{◌≡◌, length}
use Rattle.volume_importing.specs.Imported.{HasRead}
use Rattle.volume_store.specs.Saved.{GoesOn}
use Rattle.volume_importing.proofs.batch_filing.file_all.Given as goal

abbrev pub invariant-pieces : goal.invariant-pieces
invariant-pieces g l =
    (length l.piece.items ≡ 65536)
    × HasRead l.initial.store.spool l.store.spool (g.I.Read.remaining l.initial.input) (g.I.Read.remaining l.input)
    l.initial.batch.reader.unread l.batch.reader.unread l.initial.batch.counts l.batch.counts
    × GoesOn g.D.Disk.device l.initial.store l.store
