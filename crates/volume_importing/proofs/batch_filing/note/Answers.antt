use Rattle.std.proofs.Common.{rules, ◌≡◌, false, inl, refl, sym, subst}
use Rattle.volume_importing.specs.Imported.{IsSame, is_refused}
use Rattle.volume_store.specs.Saved.{GoesOn, StoreView}
use Rattle.volume_store.proofs.GoingOn.{stays}
use Rattle.volume_importing.proofs.batch_filing.note.Goals as goal
use Rattle.volume_importing.proofs.batch_filing.note.Goals.{in-Refused, in-Full+in_ok-lack-in-Full+in-None}

pub returns-in-Filed : goal.returns-in-Filed
returns-in-Filed g c =
    let is : is_refused c.args.outcome ≡ false = search rules in
    let counts = c.add.ensures is in
    record {
      spool = refl;
      noted = inl counts;
      going = λ _. counts;
      goes_on = stays g.D.Disk.device c.args.store.now c.args.store.now refl refl refl;
    }

pub returns-in-Ok-clause-spool : goal.returns-in-Ok-clause-spool
returns-in-Ok-clause-spool g c =
    let kept = λ (s : StoreView g.row.D.Denot). IsSame c.args.store.now.spool s.spool in
    elim c.match-outcome.branch [
      | in-Refused w ↦ subst kept (sym w.store-is) refl
      | in-Full+in_ok-lack-in-Full+in-None w ↦ subst kept (sym w.store-is) w.lack.ensures.spool
    ]

pub returns-in-Err-clause-spool : goal.returns-in-Err-clause-spool
returns-in-Err-clause-spool g c =
    let kept = λ (s : StoreView g.row.D.Denot). IsSame c.args.store.now.spool s.spool in
    elim c.match-outcome.branch [
      | in-Refused w ↦ subst kept (sym w.store-is) refl
      | in-Full+in_ok-lack-in-Full+in-None w ↦ subst kept (sym w.store-is) w.lack.ensures.spool
    ]

pub returns-in-Ok-clause-goes_on : goal.returns-in-Ok-clause-goes_on
returns-in-Ok-clause-goes_on g c =
    let kept = λ (s : StoreView g.row.D.Denot). GoesOn g.D.Disk.device c.args.store.now s in
    elim c.match-outcome.branch [
      | in-Refused w ↦ subst kept (sym w.store-is) (stays g.D.Disk.device c.args.store.now c.args.store.now refl refl refl)
      | in-Full+in_ok-lack-in-Full+in-None w ↦ subst kept (sym w.store-is) w.lack.ensures.goes_on
    ]

pub returns-in-Err-clause-goes_on : goal.returns-in-Err-clause-goes_on
returns-in-Err-clause-goes_on g c =
    let kept = λ (s : StoreView g.row.D.Denot). GoesOn g.D.Disk.device c.args.store.now s in
    elim c.match-outcome.branch [
      | in-Refused w ↦ subst kept (sym w.store-is) (stays g.D.Disk.device c.args.store.now c.args.store.now refl refl refl)
      | in-Full+in_ok-lack-in-Full+in-None w ↦ subst kept (sym w.store-is) w.lack.ensures.goes_on
    ]
