use Rattle.spool_groups.specs.Shown.{shown}
use Rattle.spool_opening.proofs.Whole.{overview_found}
use Rattle.spool_opening.proofs.ending.overview_size.Goals as goal

pub returns : goal.returns
returns c = λ S is. overview_found S c.args.group.now (shown c.in-Some.found.now) c.overview_size.result
    (c.in-Some.ensures S is) c.overview_size.ensures
