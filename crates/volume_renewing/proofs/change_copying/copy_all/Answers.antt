use Rattle.std.proofs.Common.{◌≡◌, Result, Err, IfErr, length, sym, ◌∙◌, ap, subst, arith}
use Rattle.std.proofs.lemmas.Result.{err_from_is_err_and}
use Rattle.volume_renewing.specs.Stopping.{IsStopped}
use Rattle.volume_renewing.specs.declared.change_copying.RenewalCounts.{RenewalCounts}
use Rattle.volume_renewing.specs.declared.errors.RenewalError.{RenewalError}
use Rattle.volume_renewing.proofs.Fronts.{whole_front}
use Rattle.volume_renewing.proofs.Ways.{more_copied, none_copied, stopped_then, way_then}
use Rattle.volume_renewing.proofs.change_copying.copy_all.Goals as goal

pub loop-done-init : goal.loop-done-init
loop-done-init g c = none_copied g.D.Disk.device c.args.old.now c.args.new.now c.requires

pub copy_next-requires-clause-host : goal.copy_next-requires-clause-host
copy_next-requires-clause-host g c = c.loop-done.invariant.host

pub copy_next-requires-clause-begun : goal.copy_next-requires-clause-begun
copy_next-requires-clause-begun g c = c.loop-done.invariant.way.front

pub copy_next-requires-clause-comes_next : goal.copy_next-requires-clause-comes_next
copy_next-requires-clause-comes_next g c = omega (arith, c.loop-done.invariant.count)

pub returns-in_err-kind-clause-way : goal.returns-in_err-kind-clause-way
returns-in_err-kind-clause-way g c =
    way_then g.D.Disk.device c.args.old.now.changes c.args.new.now c.loop-done.new c.copy_next.new.new c.loop-done.invariant.way
    c.copy_next.ensures.way

pub returns-in_err-kind-clause-stopped : goal.returns-in_err-kind-clause-stopped
returns-in_err-kind-clause-stopped g c =
    let p = err_from_is_err_and c.from_residual.result c.from_residual.ensures.1 in
    subst (λ (r : Result RenewalCounts RenewalError).
    IfErr r (λ error. IsStopped g.D.Disk.device c.args.old.now.changes c.args.new.now c.copy_next.new.new error))
    (ap Err (sym p.2) ∙ sym p.1)
    (stopped_then g.D.Disk.device c.args.old.now.changes c.args.new.now c.loop-done.new c.copy_next.new.new _
    c.loop-done.invariant.unharmed c.in_err-kind.ensures.stopped)

pub loop-done-preserved : goal.loop-done-preserved
loop-done-preserved g c =
    more_copied g.D.Disk.device c.args.old.now c.args.new.now c.loop-done.new c.copy_next.new.new c.loop-done.done c.loop-done.invariant
    c.copy_next.ensures.way c.in_ok-kind.ensures.ok.0 c.in_ok-kind.ensures.ok.1

pub returns-clause-ok : goal.returns-clause-ok
returns-clause-ok g c =
    let all : length c.loop-done.new.spool.changes ≡ length c.args.old.now.changes =
    omega (arith, c.loop-done.invariant.count, c.loop-done-test.false, c.loop-done.auto.done-end, c.len-all.ensures) in
    (c.loop-done.invariant.unharmed, whole_front c.args.old.now.changes c.loop-done.new.spool.changes c.loop-done.invariant.way.front all)
