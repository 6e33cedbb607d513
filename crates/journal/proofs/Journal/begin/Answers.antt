use Rattle.std.proofs.Common.{sym, subst}
use Rattle.journal.specs.Journal.{JournalView, MayBegin}
use Rattle.journal.proofs.Begins.{begun_admits, begun_as, begun_kept, begun_next}
use Rattle.journal.proofs.Journal.begin.Goals as goal

pub invariant_of-self : goal.invariant_of-self
invariant_of-self g c =
    begun_kept g.row.D.Denot g.D.Disk.device c.self.inside.disk _ _ _ _ _ _ _ _ _ _ _ _ _ c.self.invariant
    (subst (λ (j : JournalView g.row.D.Denot). MayBegin j c.args.numbers.now c.args.images.now) (sym c.self.view_is) c.requires)
    c.lowest_closed-filled.ensures c.fill.ensures.count c.fill.ensures.others c.fill.ensures.taken c.are_all-self-inside.ensures

pub returns-clause-begins : goal.returns-clause-begins
returns-clause-begins g c =
    rw (← c.self.view_is) (begun_as g.row.D.Denot g.D.Disk.device c.self.inside.disk _ _ _ _ _ _ _ _ _ _ _ _ _ c.self.invariant
    (subst (λ (j : JournalView g.row.D.Denot). MayBegin j c.args.numbers.now c.args.images.now) (sym c.self.view_is) c.requires)
    c.lowest_closed-filled.ensures c.fill.ensures.count c.fill.ensures.others c.fill.ensures.taken c.are_all-self-inside.ensures)

pub returns-clause-place : goal.returns-clause-place
returns-clause-place g c =
    begun_next g.row.D.Denot g.D.Disk.device c.self.inside.disk _ _ _ _ _ _ _ _ _ _ _ _ _ c.self.invariant
    (subst (λ (j : JournalView g.row.D.Denot). MayBegin j c.args.numbers.now c.args.images.now) (sym c.self.view_is) c.requires)
    c.lowest_closed-filled.ensures c.fill.ensures.count c.fill.ensures.others c.fill.ensures.taken c.are_all-self-inside.ensures

pub returns-clause-now : goal.returns-clause-now
returns-clause-now g c =
    begun_admits g.row.D.Denot g.D.Disk.device c.self.inside.disk _ _ _ _ _ _ _ _ _ _ _ _ _ c.self.invariant
    (subst (λ (j : JournalView g.row.D.Denot). MayBegin j c.args.numbers.now c.args.images.now) (sym c.self.view_is) c.requires)
    c.lowest_closed-filled.ensures c.fill.ensures.count c.fill.ensures.others c.fill.ensures.taken c.are_all-self-inside.ensures
