use Rattle.std.proofs.Common.{◌≡◌, [], ⊎_elim, sym, subst}
use Rattle.kernel.specs.Standing.{LeavesRefused}
use Rattle.kernel.specs.declared.kernel_opening.OpenError.TheVariants.{Memory, NotAVolume, Damaged}
use Rattle.model.specs.News.{Stands}
use Rattle.kernel_trace.specs.Traced.{TracedView}
use Rattle.world.specs.Images.{KeepsSpools}
use Rattle.world.proofs.Fitting.{now_fits}
use Rattle.world.proofs.Opening.{keeps_left, none_damaged, none_unlabelled, refused_for_memory, sound_new}
use Rattle.world.proofs.World.open.Goals as goal

pub returns-in-Err-clause-during : goal.returns-in-Err-clause-during
returns-in-Err-clause-during g c =
    keeps_left g.D.Disk.device g.met.D.Disk.only_now g.met.D.Disk.counts_content c.args.disk c.in-Err.refused.disk
    c.in-Err.ensures.refusal.volume

pub returns-in-Err-clause-no_spool : goal.returns-in-Err-clause-no_spool
returns-in-Err-clause-no_spool g c missed tells =
    ⊎_elim
    (λ (a : c.in-Err.refused.error ≡ NotAVolume). none_unlabelled (g.D.Disk.device c.args.disk).content
    (c.in-Err.ensures.refusal.no_volume a tells))
    (λ (b : c.in-Err.refused.error ≡ Damaged). none_damaged (g.D.Disk.device c.args.disk).content
    (c.in-Err.ensures.refusal.damaged b tells))
    missed

pub returns-in_default-clause-refusal : goal.returns-in_default-clause-refusal
returns-in_default-clause-refusal g c =
    subst (λ d. LeavesRefused g.D.Disk.device c.args.disk d Memory) (sym c.into_disk.ensures)
    (refused_for_memory g.D.Disk.device c.args.disk c.in-Ok.opened.journal.disk c.in-Ok.ensures.opening)

pub returns-in_default-clause-during : goal.returns-in_default-clause-during
returns-in_default-clause-during g c =
    subst (λ d. KeepsSpools (g.D.Disk.device c.args.disk) (g.D.Disk.device d)) (sym c.into_disk.ensures)
    (keeps_left g.D.Disk.device g.met.D.Disk.only_now g.met.D.Disk.counts_content c.args.disk c.in-Ok.opened.journal.disk
    c.in-Ok.ensures.opening.volume)

pub returns-in_default-new-clause-refusal : goal.returns-in_default-new-clause-refusal
returns-in_default-new-clause-refusal g c =
    subst (λ d. LeavesRefused g.D.Disk.device c.args.disk d Memory) (sym c.into_disk-in_default-new.ensures)
    (refused_for_memory g.D.Disk.device c.args.disk c.in-Ok.opened.journal.disk c.in-Ok.ensures.opening)

pub returns-in_default-new-clause-during : goal.returns-in_default-new-clause-during
returns-in_default-new-clause-during g c =
    subst (λ d. KeepsSpools (g.D.Disk.device c.args.disk) (g.D.Disk.device d)) (sym c.into_disk-in_default-new.ensures)
    (keeps_left g.D.Disk.device g.met.D.Disk.only_now g.met.D.Disk.counts_content c.args.disk c.in-Ok.opened.journal.disk
    c.in-Ok.ensures.opening.volume)

pub returns-clause-spool : goal.returns-clause-spool
returns-clause-spool g c tells =
    subst (λ (s : TracedView). Stands s.kernel.host (g.D.Disk.device c.args.disk).content s.kernel.spool) (sym c.in-Ok-new.ensures)
    (c.in-Ok.ensures.spool tells)

pub returns-clause-during : goal.returns-clause-during
returns-clause-during g c = keeps_left g.D.Disk.device g.met.D.Disk.only_now g.met.D.Disk.counts_content c.args.disk
    c.in-Ok.opened.journal.disk c.in-Ok.ensures.opening.volume

pub returns-clause-now : goal.returns-clause-now
returns-clause-now g c = now_fits g.D.Disk.device (record { journal = c.in-Ok.opened.journal; served = c.in-Ok-new.served; untold = [] })
    c.kept.ensures

pub invariant_of-world : goal.invariant_of-world
invariant_of-world g c = sound_new g.D.Disk.device c.in-Ok.opened.journal c.in-Ok.opened.kernel c.in-Ok-new.served c.in-Ok-new.ensures
    c.in-Ok.ensures.opened c.in-Ok.ensures.format c.in-Ok.ensures.idle
