use Rattle.std.specs.Prelude.{take}
use Rattle.std.specs.Io.KnownBytes.{Appends}
use Rattle.volume_exporting.specs.Exported.{batch_of}
use Rattle.volume_exporting.proofs.exported_batches.write_all.Given as goal

-- the first entries were written
abbrev pub invariant-loop-serial : goal.invariant-loop-serial
invariant-loop-serial g l =
    Appends (g.W.Write.contents l.initial.output) (g.W.Write.contents l.output)
    (batch_of l.ends l.spool.changes (take l.serial-index l.serials))
