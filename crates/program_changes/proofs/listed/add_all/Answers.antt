use Rattle.std.proofs.Common.{◌≡◌, ◌+◌, ◌∙◌, ◌++◌, ◌∷◌, [], List, ap, arith, refl, subst, sym, take}
use Rattle.volume_store.proofs.GoingOn.{goes_then, stays}
use Rattle.program_changes.specs.Listing.{HasAddedAll}
use Rattle.program_changes.specs.declared.listed.GroupOutcome.{GroupOutcome}
use Rattle.program_changes.proofs.Added.{added_next, first_added, first_none, first_then, none_added, on_err, unless_err}
use Rattle.program_changes.proofs.listed.add_all.Goals as goal

pub returns-in_err-outcomes-clause-failed : goal.returns-in_err-outcomes-clause-failed
returns-in_err-outcomes-clause-failed g c =
    on_err c.from_residual.result (first_none c.args.listed.now c.args.store.now.spool)

pub lines-init : goal.lines-init
lines-init g c =
    let old = c.args.store.now in (
      subst (λ (os : List GroupOutcome). HasAddedAll old.spool [] os old.spool) (sym c.in_ok-outcomes.ensures.items)
          (none_added old.spool),
      stays g.D.Disk.device old old refl refl refl,
    )

pub returns-in_err-outcome-clause-failed : goal.returns-in_err-outcome-clause-failed
returns-in_err-outcome-clause-failed g c =
    on_err c.from_residual-in_err-outcome.result
    (first_then c.args.listed.now c.lines.place c.args.store.now.spool c.lines.store.spool c.add_listed.new.store.spool
    c.lines.outcomes.items c.lines.invariant.0 c.in_err-outcome.ensures.err)

pub returns-in_err-outcome-clause-goes_on : goal.returns-in_err-outcome-clause-goes_on
returns-in_err-outcome-clause-goes_on g c =
    goes_then g.D.Disk.device c.args.store.now c.lines.store c.add_listed.new.store c.lines.invariant.1 c.add_listed.ensures.goes_on

pub returns-then-is_err-clause-failed : goal.returns-then-is_err-clause-failed
returns-then-is_err-clause-failed g c =
    let old = c.args.store.now.spool in
    let new = c.add_listed.new.store.spool in
    first_added c.args.listed.now (c.lines.place + 1) old new (c.lines.outcomes.items ++ c.in_ok-outcome.outcome ∷ [])
    (added_next c.args.listed.now c.lines.place c.index-listed-place.result old c.lines.store.spool new c.lines.outcomes.items
    c.in_ok-outcome.outcome (omega (arith, c.lines-test.true)) c.index-listed-place.is c.lines.invariant.0 c.in_ok-outcome.ensures.ok)

pub returns-then-is_err-clause-goes_on : goal.returns-then-is_err-clause-goes_on
returns-then-is_err-clause-goes_on g c =
    goes_then g.D.Disk.device c.args.store.now c.lines.store c.add_listed.new.store c.lines.invariant.1 c.add_listed.ensures.goes_on

pub lines-preserved : goal.lines-preserved
lines-preserved g c =
    let old = c.args.store.now.spool in
    let new = c.add_listed.new.store.spool in
    let pushed : c.push.new.self.items ≡ c.lines.outcomes.items ++ c.in_ok-outcome.outcome ∷ [] =
    unless_err c.push.result (c.lines.outcomes.items ++ c.in_ok-outcome.outcome ∷ []) c.lines.outcomes.items c.push.new.self.items
    (sym c.is_err.ensures.value ∙ c.if-is_err.false) c.push.ensures.items in (
      subst (λ (os : List GroupOutcome). HasAddedAll old (take (c.lines.place + 1) c.args.listed.now) os new) (sym pushed)
          (added_next c.args.listed.now c.lines.place c.index-listed-place.result old c.lines.store.spool new c.lines.outcomes.items
          c.in_ok-outcome.outcome (omega (arith, c.lines-test.true)) c.index-listed-place.is c.lines.invariant.0
          c.in_ok-outcome.ensures.ok),
      goes_then g.D.Disk.device c.args.store.now c.lines.store c.add_listed.new.store c.lines.invariant.1
          c.add_listed.ensures.goes_on,
    )
