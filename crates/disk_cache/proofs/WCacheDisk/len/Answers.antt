use Rattle.std.proofs.Common.{rules}
use Rattle.disk_cache.proofs.WCacheDisk.len.Goals as goal

pub returns : goal.returns
returns c = search rules
