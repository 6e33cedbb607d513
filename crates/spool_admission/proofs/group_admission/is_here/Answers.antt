use Rattle.model.specs.Indexed.{group_index}
use Rattle.model.specs.Spool.{group_named}
use Rattle.spool_groups.specs.Shown.{shown}
use Rattle.spool_admission.proofs.Testing.{same_some}
use Rattle.spool_admission.proofs.group_admission.is_here.Goals as goal

pub returns : goal.returns
returns c = λ S is. let e = same_some (λ g. shown g.now) (group_index S) c.find_group.result (group_named S c.args.name.now)
    (c.find_group.ensures S is) in cc
