use Rattle.std.proofs.Common.{◌≡◌, List, ℕ, length, sym, subst, arith}
use Rattle.std.specs.Io.KnownBytes.{Appends}
use Rattle.std.proofs.KnownBytes.{Appends-nil}
use Rattle.volume_exporting.proofs.Entries.{all_entries, one_entry_more}
use Rattle.volume_exporting.proofs.exported_batches.write_all.Goals as goal

pub loop-serial-init : goal.loop-serial-init
loop-serial-init g c = Appends-nil (g.W.Write.contents c.args.output.now)

pub loop-serial-preserved : goal.loop-serial-preserved
loop-serial-preserved g c =
    one_entry_more c.args.ends c.args.spool.now.changes c.args.serials.now c.loop-serial.serial-index
    (g.W.Write.contents c.args.output.now) (g.W.Write.contents c.loop-serial.output) (g.W.Write.contents c.write_entry.new.output)
    c.loop-serial-test.true c.loop-serial.invariant c.in_ok-write_entry.ensures.written

pub returns-clause-written : goal.returns-clause-written
returns-clause-written g c =
    all_entries c.args.ends c.args.spool.now.changes c.args.serials.now c.loop-serial.serial-index
    (g.W.Write.contents c.args.output.now) (g.W.Write.contents c.loop-serial.output)
    (omega (arith, c.loop-serial-test.false, c.loop-serial.auto.serial-index-end)) c.loop-serial.invariant
