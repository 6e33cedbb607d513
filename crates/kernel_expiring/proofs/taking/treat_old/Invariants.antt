use Rattle.kernel_expiring.proofs.Treated.{IsTreated}
use Rattle.kernel_expiring.proofs.taking.treat_old.Given as goal

-- the groups so far
abbrev pub invariant-groups : goal.invariant-groups
invariant-groups g l =
    IsTreated (λ v place group. g.T.TreatOld.found l.treating v place l.wildmat l.since group) (g.T.TreatOld.treated l.treating) l.fn.volume
    l.volume l.place l.articles
    × g.T.TreatOld.is_ready l.treating l.volume
