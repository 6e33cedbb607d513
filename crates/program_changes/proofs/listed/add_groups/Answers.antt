use Rattle.std.proofs.Common.{List, ap, subst, sym}
use Rattle.program_changes.specs.Listing.{HasAddedAll}
use Rattle.program_changes.specs.declared.listed.GroupOutcome.{GroupOutcome}
use Rattle.program_changes.proofs.Added.{added_same, whole_added}
use Rattle.program_changes.proofs.listed.add_groups.Goals as goal

pub returns-in-Ok-clause-made : goal.returns-in-Ok-clause-made
returns-in-Ok-clause-made g c =
    let old = c.args.store.now.spool in
    let new = c.commit.new.store.spool in
    subst (λ (os : List GroupOutcome). HasAddedAll old c.args.listed.now os new) (sym (ap (λ v. v.items) c.in-Ok.ensures.value))
    (added_same old c.add_all.new.store.spool new c.args.listed.now c.in_ok-outcomes.outcomes.items c.in_ok-outcomes.ensures.made
    c.in-Ok.ensures.commits.spool)

pub returns-in-Err-clause-failed : goal.returns-in-Err-clause-failed
returns-in-Err-clause-failed g c =
    whole_added c.args.listed.now c.args.store.now.spool c.add_all.new.store.spool c.commit.new.store.spool
    c.in_ok-outcomes.outcomes.items c.in_ok-outcomes.ensures.made c.in-Err.ensures.commits.spool
