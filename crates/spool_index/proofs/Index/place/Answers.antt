use Rattle.std.proofs.Common.{ap, length, map, ◌∙◌, ◌≡◌, subst}
use Rattle.std.specs.Prelude.{IfSome, Some, bytes_eq, slice_get}
use Rattle.std.specs.List.{list_any}
use Rattle.spool_groups.specs.Naming.{heads}
use Rattle.spool_groups.specs.Shown.{shown}
use Rattle.spool_index.specs.View.{IndexView}
use Rattle.spool_index.proofs.Known.{IsPlace, place_here, place_spool, place_there}
use Rattle.spool_index.proofs.Index.place.Goals as goal

pub returns-clause-here : goal.returns-clause-here
returns-clause-here c =
    place_here c.self.inside.places (heads (map shown c.self.inside.groups.items))
    (length c.deref.result.now) c.args.name.now c.place_of.result c.self.invariant.0 c.place_of.ensures
    ∙ ap (λ (x : IndexView). list_any (bytes_eq c.args.name.now) (heads x.groups)) c.self.view_is

pub returns-clause-there : goal.returns-clause-there
returns-clause-there c =
    subst (λ (x : IndexView). IfSome c.place_of.result (λ k. slice_get (heads x.groups) k ≡ Some c.args.name.now)) c.self.view_is
    (place_there c.self.inside.places (heads (map shown c.self.inside.groups.items))
    (length c.deref.result.now) c.args.name.now c.place_of.result c.self.invariant.0 c.place_of.ensures)

pub returns-clause-spool : goal.returns-clause-spool
returns-clause-spool c = λ S is.
    place_spool shown c.self.inside.groups.items c.self.inside.places c.args.name.now c.place_of.result c.args.self.now S c.self.invariant.0
    (subst (λ gs. IsPlace c.self.inside.places (length gs) c.args.name.now c.place_of.result) c.deref.ensures.value c.place_of.ensures)
    (ap (λ (x : IndexView). x.groups) c.self.view_is) is
