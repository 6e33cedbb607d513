use Rattle.std.proofs.Common.{rules}
use Rattle.disk_cache.proofs.WCacheFaults.fail_kind.Goals as goal

pub returns-clause-plan : goal.returns-clause-plan
returns-clause-plan c = search rules
