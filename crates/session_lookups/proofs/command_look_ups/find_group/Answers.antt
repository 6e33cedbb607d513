use Rattle.std.proofs.Common.{◌∙◌, ap, sym}
use Rattle.std.specs.Prelude.{Option, option_map, unwrap_or, false, is_some}
use Rattle.model.specs.Spool.{NewsGroup, contents, contents_if_here, forbids_posts}
use Rattle.session_lookups.proofs.Groups.{is_of, none_of}
use Rattle.session_lookups.proofs.command_look_ups.find_group.Goals as goal

pub returns-in-Some-clause-here : goal.returns-in-Some-clause-here
returns-in-Some-clause-here g c = (is_of _ c.args.group.now c.in-Some.view c.in-Some.ensures).here

pub returns-in-Some-clause-has : goal.returns-in-Some-clause-has
returns-in-Some-clause-has g c = (is_of _ c.args.group.now c.in-Some.view c.in-Some.ensures).has

pub returns-in-Some-clause-counts : goal.returns-in-Some-clause-counts
returns-in-Some-clause-counts g c =
    let its = is_of _ c.args.group.now c.in-Some.view c.in-Some.ensures in
    record { low = its.low; high = its.high; last = its.last }

pub returns-in-Some-clause-closed : goal.returns-in-Some-clause-closed
returns-in-Some-clause-closed g c =
    (is_of _ c.args.group.now c.in-Some.view c.in-Some.ensures).closed ∙ sym c.forbids_posts.ensures

pub returns-in-None-clause-here : goal.returns-in-None-clause-here
returns-in-None-clause-here g c = ap (λ (o : Option NewsGroup). is_some o) (none_of _ c.args.group.now c.in-None.ensures)

pub returns-in-None-clause-has : goal.returns-in-None-clause-has
unfolding contents_if_here
returns-in-None-clause-has g c =
    ap (λ (o : Option NewsGroup). option_map (λ (h : NewsGroup). contents (g.L.LookUps.changes c.args.spool.now) c.args.group.now) o)
    (none_of _ c.args.group.now c.in-None.ensures)

pub returns-in-None-clause-closed : goal.returns-in-None-clause-closed
returns-in-None-clause-closed g c =
    ap (λ (o : Option NewsGroup). unwrap_or (option_map (λ (h : NewsGroup). forbids_posts h.status) o) false)
    (none_of _ c.args.group.now c.in-None.ensures)
