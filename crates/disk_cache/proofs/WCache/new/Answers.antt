use Rattle.std.proofs.Common.{ℕ, List, Option, None, replicate, ◌∙◌, ap}
use Rattle.disk_cache.specs.Cache.{CacheView}
use Rattle.disk_cache.specs.Taken.{taken}
use Rattle.disk_cache.proofs.Places.{places_none}
use Rattle.disk_cache.proofs.WCache.new.Goals as goal

pub returns : goal.returns
returns g c =
    ap (λ (cs : List (Option ℕ)). let w : CacheView g.row.D.Denot =
    record { disk = c.args.disk; collected = cs; reads = 0; writes = 0; syncs = 0 } in w)
    (places_none (taken c.new.result) c.len-len.result c.new.ensures
    ∙ ap (λ (n : ℕ). let cs : List (Option ℕ) = replicate n None in cs) c.len-len.ensures)
