use Rattle.journal.proofs.Whole.{kept_unchanged}
use Rattle.journal.proofs.Journal.fail_kind.Goals as goal

pub invariant_of-self : goal.invariant_of-self
invariant_of-self g c = kept_unchanged _ _ _ _ _ _ _ _ c.self.invariant _ c.fail_kind.ensures.unchanged
