use Rattle.std.proofs.Common.{rules}
use Rattle.disk_cache.proofs.WCache.into_inner.Goals as goal

pub returns : goal.returns
returns c = search rules
