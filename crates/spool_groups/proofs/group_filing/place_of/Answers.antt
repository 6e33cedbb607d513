use Rattle.std.proofs.Common.{sym}
use Rattle.spool_groups.specs.Shown.{shown}
use Rattle.spool_groups.proofs.Naming.{within}
use Rattle.spool_groups.proofs.group_filing.place_of.Goals as goal

pub returns-in-Some : goal.returns-in-Some
returns-in-Some c = (
  within shown c.args.groups.now c.args.places.now c.args.name.now c.in-Some.place c.requires (sym c.in-Some.ensures),
  sym c.in-Some.ensures,
)
