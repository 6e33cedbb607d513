use Rattle.std.proofs.Common.{◌≡◌, ◌≤◌, ◌-◌, List, length, sym, subst}
use Rattle.std.proofs.lemmas.Result.{IfOk-weaker}
use Rattle.std.specs.Prelude.{Some, slice_get}
use Rattle.model.specs.Files.{HasRoom}
use Rattle.model.specs.Indexed.{ArePlaces}
use Rattle.model.specs.Layout.{Holds}
use Rattle.model.specs.Stream.{Octets}
use Rattle.spool.specs.View.{SpoolView}
use Rattle.spool.proofs.Spool.change.Goals as goal

pub change-requires-clause-room : goal.change-requires-clause-room
change-requires-clause-room c =
    let s = c.self.inside in
    let kept = c.self.invariant.0 in
    subst (λ (bs : List Octets). HasRoom s.kept.inodes bs) (sym kept.seen) kept.is.room

pub change-requires-clause-there : goal.change-requires-clause-there
change-requires-clause-there c =
    let s = c.self.inside in
    let kept = c.self.invariant.0 in
    record {
      host = s.host;
      changes = s.stands.changes;
      held = subst (λ (bs : List Octets). Holds s.host s.kept.inodes bs s.stands.changes) (sym kept.seen) kept.is.held;
      placed = subst (λ (bs : List Octets). ArePlaces s.kept.inodes bs s.stands.changes s.kept.places) (sym kept.seen) kept.placed;
      from = c.requires.from;
      to = subst (λ (x : SpoolView). c.args.serial ≤ length x.changes) (sym c.self.view_is) c.requires.to;
    }

pub returns : goal.returns
returns c =
    let s = c.self.inside in
    let kept = c.self.invariant.0 in
    let held = subst (λ (bs : List Octets). Holds s.host s.kept.inodes bs s.stands.changes) (sym kept.seen) kept.is.held in
    IfOk-weaker c.change.result _ _
    (λ change is. subst (λ (x : SpoolView). slice_get x.changes (c.args.serial - 1) ≡ Some change) c.self.view_is
    (is s.host s.stands.changes held))
    c.change.ensures
