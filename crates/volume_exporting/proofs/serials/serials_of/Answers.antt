use Rattle.std.proofs.Common.{◌∙◌, ap, Some}
use Rattle.session_lookups.specs.Held.{shown}
use Rattle.model.specs.Spool.{group_named}
use Rattle.volume_exporting.proofs.Picked.{picked-known}
use Rattle.volume_exporting.proofs.serials.serials_of.Goals as goal

pub returns : goal.returns
returns g c =
    let S = g.L.LookUps.changes c.args.spool.now in
    ap (λ items. Some items) c.in_ok-numbered.ensures
    ∙ picked-known S (shown c.in-Some.view) (group_named S c.args.group.now) c.in-Some.ensures
