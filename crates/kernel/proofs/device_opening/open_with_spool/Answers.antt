use Rattle.std.proofs.Common.{sym, subst}
use Rattle.kernel.specs.Standing.{LeavesRefused}
use Rattle.kernel.proofs.DeviceLaws.{blocks_refused, both_opened, lacked_still, stands_loaded, still_loaded}
use Rattle.kernel.proofs.device_opening.open_with_spool.Goals as goal

pub returns-in-Err-clause-refusal : goal.returns-in-Err-clause-refusal
returns-in-Err-clause-refusal g c =
    subst (λ d. LeavesRefused g.D.Disk.device c.args.disk d c.in-Err.error) (sym c.into_disk-disk.ensures)
    (blocks_refused g.D.Disk.device g.met.D.Disk.only_now g.met.D.Disk.counts_content g.met.D.Disk.counts_now c.args.disk
    c.in_ok-journal.journal c.open_spool.new.journal c.in-Err.error c.in_ok-journal.ensures.ok c.in_ok-journal.ensures.moment
    c.open_spool.ensures.reads c.in-Err.ensures.fault
    (lacked_still g.D.Disk.device g.D.Disk.sync_grows c.in_ok-journal.journal c.open_spool.new.journal c.in-Err.error
    c.in-Err.ensures.still)
    c.in-Err.ensures.no_label c.in-Err.ensures.damaged)

pub returns-in-Ok-clause-loaded : goal.returns-in-Ok-clause-loaded
returns-in-Ok-clause-loaded g c =
    still_loaded g.D.Disk.device c.in_ok-journal.journal c.open_spool.new.journal c.in-Ok.spool c.in-Ok.ensures.ok
    c.open_spool.ensures.reads c.in-Ok.ensures.format

pub returns-in-Ok-clause-spool : goal.returns-in-Ok-clause-spool
returns-in-Ok-clause-spool g c tells =
    stands_loaded g.D.Disk.device c.args.disk c.in_ok-journal.journal c.in-Ok.spool c.in_ok-journal.ensures.ok c.in-Ok.ensures.ok tells

pub returns-in-Ok-clause-opening : goal.returns-in-Ok-clause-opening
returns-in-Ok-clause-opening g c =
    both_opened g.D.Disk.device g.met.D.Disk.only_now g.met.D.Disk.counts_content g.met.D.Disk.counts_now c.args.disk
    c.in_ok-journal.journal c.open_spool.new.journal c.in_ok-journal.ensures.ok c.in_ok-journal.ensures.moment
    c.in_ok-journal.ensures.cost c.open_spool.ensures.reads c.in-Ok.ensures.cost c.in-Ok.ensures.still
