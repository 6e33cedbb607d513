use Rattle.std.proofs.Common.{ℕ, ◌+◌, OnOk, sym, subst}
use Rattle.kernel_expiring.specs.declared.AgedGroup.{AgedGroup}
use Rattle.kernel_expiring.proofs.Treated.{IsTreated, one_aged, one_spared}
use Rattle.kernel_expiring.proofs.taking.treat_old.Goals.{in-Spared, in-Aged+in_ok-treat-in-Aged}
use Rattle.kernel_expiring.proofs.taking.treat_old.Goals as goal

pub groups-preserved : goal.groups-preserved
groups-preserved g c =
    let V : Type 0 = g.row.T-Volume.Denot in
    let found : V → ℕ → AgedGroup → Type 0 =
    λ v place group. g.T.TreatOld.found c.args.treating.now v place c.args.wildmat.now c.args.since group in
    let treated = g.T.TreatOld.treated c.args.treating.now in
    let ready : V → Type 0 = g.T.TreatOld.is_ready c.args.treating.now in
    let old = c.args.volume.now in
    elim c.match-find.branch [
      | in-Spared w ↦ subst (λ (v : V). IsTreated found treated old v (c.groups.place + 1) c.match-find.articles × ready v)
          (sym w.volume-is)
          (subst (λ (n : ℕ). IsTreated found treated old c.groups.volume (c.groups.place + 1) n × ready c.groups.volume)
          (sym w.articles-is) (
            one_spared found treated old c.groups.volume c.groups.place c.groups.articles c.find.result c.groups.invariant.0
                w.in-Spared.is c.find.ensures,
            c.groups.invariant.1,
          ))
      | in-Aged+in_ok-treat-in-Aged w ↦
          subst (λ (v : V). IsTreated found treated old v (c.groups.place + 1) c.match-find.articles × ready v) (sym w.volume-is)
          (subst (λ (n : ℕ). IsTreated found treated old w.treat.new.volume (c.groups.place + 1) n × ready w.treat.new.volume)
          (sym w.articles-is) (
            one_aged found treated old c.groups.volume w.treat.new.volume c.groups.place c.groups.articles _ w.in-Aged.aged c.find.result
                w.treat.result c.groups.invariant.0 w.in-Aged.is c.find.ensures w.in_ok-treat-in-Aged.was w.treat.ensures.treated
                w.saturating_add-articles.ensures,
            subst (λ r. OnOk r (ready w.treat.new.volume)) w.in_ok-treat-in-Aged.was w.treat.ensures.ready,
          ))
    ]
