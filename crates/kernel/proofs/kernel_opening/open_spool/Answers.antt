use Rattle.std.proofs.Common.{subst, sym}
use Rattle.journal.specs.Journal.{JournalView}
use Rattle.kernel.specs.Opening.{ReadsAndUpgrades}
use Rattle.kernel.proofs.Reading.{reads_alone, reads_then}
use Rattle.kernel.proofs.kernel_opening.open_spool.Goals as goal
use Rattle.kernel.proofs.kernel_opening.open_spool.Goals.{then-format-ne3+in_ok-upgrade, else-format-ne3}

pub returns-clause-reads : goal.returns-clause-reads
returns-clause-reads g c = elim c.if-format-ne3.branch [
  | then-format-ne3+in_ok-upgrade w ↦
      subst (λ (j : JournalView g.row.D.Denot). ReadsAndUpgrades g.D.Disk.device c.args.journal.now j) (sym w.journal-is)
      (reads_then g.D.Disk.device c.args.journal.now c.read.new.journal c.requires.ready.1 c.in_ok-spool.ensures.reads w.upgrade.new.journal
      w.upgrade.ensures.reads)
  | else-format-ne3 w ↦
      subst (λ (j : JournalView g.row.D.Denot). ReadsAndUpgrades g.D.Disk.device c.args.journal.now j) (sym w.journal-is)
      (reads_alone g.D.Disk.device c.args.journal.now c.read.new.journal c.requires.ready.1 c.in_ok-spool.ensures.reads)
]
