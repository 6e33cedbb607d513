use Rattle.std.proofs.Common.{◌≡◌, ◌≢◌, false, inl, inr, sym, subst}
use Rattle.journal.specs.Opening.{Costs, LeavesVolume, LeftKept, SyncsFirst}
use Rattle.kernel.proofs.Reading.{reads_alone}
use Rattle.kernel.specs.Standing.{LeavesRefused}
use Rattle.kernel.specs.declared.kernel_opening.OpenError.TheVariants.{Fault}
use Rattle.kernel.proofs.DeviceLaws.{blocks_refused, lacked_still, left_both, syncs_both, volume_left}
use Rattle.volume_states.proofs.Openings.{only_cost, told}
use Rattle.volume_states.proofs.device_state.state_on.Goals as goal

-- ---- refused

pub returns-in-Err-clause-refusal : goal.returns-in-Err-clause-refusal
returns-in-Err-clause-refusal g c =
    subst (λ d. LeavesRefused g.D.Disk.device c.args.disk d c.in-Err.error) (sym c.into_disk-in-Err.ensures)
    (blocks_refused g.D.Disk.device g.met.D.Disk.only_now g.met.D.Disk.counts_content g.met.D.Disk.counts_now c.args.disk
    c.in_ok-journal.journal c.state_in.new.journal c.in-Err.error c.in_ok-journal.ensures.ok
    c.in_ok-journal.ensures.moment
    (reads_alone g.D.Disk.device c.in_ok-journal.journal c.state_in.new.journal c.in_ok-journal.ensures.ok.ready.1 c.state_in.ensures.reads)
    c.in-Err.ensures.fault
    (lacked_still g.D.Disk.device false c.in_ok-journal.journal c.state_in.new.journal c.in-Err.error
    (λ (other : c.in-Err.error ≢ Fault). inl (c.in-Err.ensures.still other)))
    c.in-Err.ensures.no_label c.in-Err.ensures.damaged)

-- ---- the spool was read

pub returns-in-Ok-clause-told : goal.returns-in-Ok-clause-told
returns-in-Ok-clause-told g c =
    told g.D.Disk.device c.args.disk c.in_ok-journal.journal c.in-Ok.state c.in_ok-journal.ensures.ok c.in-Ok.ensures.told

pub returns-in-Ok-clause-volume : goal.returns-in-Ok-clause-volume
returns-in-Ok-clause-volume g c =
    subst (λ d. LeftKept (g.D.Disk.device c.args.disk) (g.D.Disk.device d)) (sym c.into_disk.ensures)
    (left_both g.D.Disk.device c.args.disk c.in_ok-journal.journal c.state_in.new.journal c.in_ok-journal.ensures.ok
    (reads_alone g.D.Disk.device c.in_ok-journal.journal c.state_in.new.journal c.in_ok-journal.ensures.ok.ready.1
    c.state_in.ensures.reads))

pub returns-in-Ok-clause-moment : goal.returns-in-Ok-clause-moment
returns-in-Ok-clause-moment g c =
    subst (SyncsFirst g.D.Disk.device c.args.disk) (sym c.into_disk.ensures)
    (syncs_both g.D.Disk.device c.args.disk c.in_ok-journal.journal c.state_in.new.journal c.in_ok-journal.ensures.ok
    c.in_ok-journal.ensures.moment
    (reads_alone g.D.Disk.device c.in_ok-journal.journal c.state_in.new.journal c.in_ok-journal.ensures.ok.ready.1
    c.state_in.ensures.reads))

pub returns-in-Ok-clause-left : goal.returns-in-Ok-clause-left
returns-in-Ok-clause-left g c tells =
    subst (λ d. LeavesVolume (g.D.Disk.device c.args.disk).content (g.D.Disk.device d).content) (sym c.into_disk.ensures)
    (inr (volume_left g.D.Disk.device g.met.D.Disk.only_now g.met.D.Disk.counts_content g.met.D.Disk.counts_now c.args.disk
    c.in_ok-journal.journal c.state_in.new.journal c.in_ok-journal.ensures.ok
    (reads_alone g.D.Disk.device c.in_ok-journal.journal c.state_in.new.journal c.in_ok-journal.ensures.ok.ready.1 c.state_in.ensures.reads)
    tells))

pub returns-in-Ok-clause-cost : goal.returns-in-Ok-clause-cost
returns-in-Ok-clause-cost g c tells =
    subst (λ d. Costs 1 (g.D.Disk.device c.args.disk).content (g.D.Disk.device c.args.disk) (g.D.Disk.device d)) (sym c.into_disk.ensures)
    (only_cost g.D.Disk.device c.args.disk c.in_ok-journal.journal (g.D.Disk.device c.args.disk).content c.state_in.new.journal
    (c.in_ok-journal.ensures.cost tells) c.state_in.ensures.reads)
