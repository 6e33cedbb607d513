use Rattle.journal.proofs.Whole.{kept_whole}
use Rattle.journal.proofs.Journal.is_idle.Goals as goal

pub returns-then-not-self-clause-whole : goal.returns-then-not-self-clause-whole
returns-then-not-self-clause-whole g c =
    rw (← c.self.view_is) (kept_whole _ _ _ _ _ _ _ _ c.self.invariant (g.met.D.Disk.counts_content c.self.inside.disk))

pub returns-else-not-self-clause-whole : goal.returns-else-not-self-clause-whole
returns-else-not-self-clause-whole g c =
    rw (← c.self.view_is) (kept_whole _ _ _ _ _ _ _ _ c.self.invariant (g.met.D.Disk.counts_content c.self.inside.disk))
