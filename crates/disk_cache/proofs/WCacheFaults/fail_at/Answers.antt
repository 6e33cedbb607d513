use Rattle.std.proofs.Common.{rules}
use Rattle.disk_cache.proofs.WCacheFaults.fail_at.Goals as goal

pub returns-clause-plan : goal.returns-clause-plan
returns-clause-plan c = search rules

pub returns-clause-unchanged : goal.returns-clause-unchanged
returns-clause-unchanged c = search rules
