use Rattle.std.proofs.Common.{ap, map, sym, ◌∙◌}
use Rattle.std.specs.Prelude.{Some, bytes_eq}
use Rattle.std.specs.List.{list_any}
use Rattle.spool_groups.specs.Naming.{heads}
use Rattle.spool_groups.specs.Shown.{shown}
use Rattle.spool_index.specs.View.{IndexView}
use Rattle.spool_index.proofs.LookUps.{group_found, group_not_found}
use Rattle.spool_index.proofs.Known.{named_false, named_true}
use Rattle.spool_index.proofs.Index.group.Goals as goal

pub returns-in-Some-clause-spool : goal.returns-in-Some-clause-spool
returns-in-Some-clause-spool c = λ S is.
    ap (λ g. Some (shown g)) c.index.ensures
    ∙ group_found shown c.self.inside.groups.items c.self.inside.places c.self.invariant.0 c.args.name.now c.in-Some.place
    c.index.result.now c.args.self.now S (ap (λ (x : IndexView). x.groups) c.self.view_is) is c.in-Some.ensures.1

pub returns-in-None-clause-spool : goal.returns-in-None-clause-spool
returns-in-None-clause-spool c = λ S is.
    group_not_found shown c.self.inside.groups.items c.self.inside.places c.self.invariant.0 c.args.name.now c.args.self.now S
    (ap (λ (x : IndexView). x.groups) c.self.view_is) is c.in-None.ensures

pub returns-in-Some-clause-here : goal.returns-in-Some-clause-here
returns-in-Some-clause-here c =
    sym (named_true c.self.inside.places (heads (map shown c.self.inside.groups.items)) c.args.name.now c.in-Some.place c.self.invariant.0
    c.in-Some.ensures.1)
    ∙ ap (λ (x : IndexView). list_any (bytes_eq c.args.name.now) (heads x.groups)) c.self.view_is

pub returns-in-None-clause-here : goal.returns-in-None-clause-here
returns-in-None-clause-here c =
    sym (named_false c.self.inside.places (heads (map shown c.self.inside.groups.items)) c.args.name.now c.self.invariant.0
    c.in-None.ensures)
    ∙ ap (λ (x : IndexView). list_any (bytes_eq c.args.name.now) (heads x.groups)) c.self.view_is
