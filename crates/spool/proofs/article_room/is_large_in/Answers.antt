use Rattle.std.proofs.Common.{◌∙◌}
use Rattle.spool_groups.specs.Shown.{shown}
use Rattle.spool.proofs.Large.{large_group}
use Rattle.spool.proofs.article_room.is_large_in.Goals as goal

pub returns-in-Some : goal.returns-in-Some
returns-in-Some c = λ S is here. c.is_large.ensures
    ∙ large_group S c.args.name.now (shown c.in-Some.group.now) (c.in-Some.ensures.spool S is)
