use Rattle.std.proofs.Common.{◌≡◌, ◌≤◌, ℕ, ◌+◌, length, sym, subst, arith}
use Rattle.disk.specs.Device.{Device}
use Rattle.disk_cache.specs.Cache.{CacheView}
use Rattle.disk_cache.specs.Taken.{taken}
use Rattle.disk_cache.proofs.Caching.{is_read}
use Rattle.disk_cache.proofs.WCacheDisk.read.Goals as goal

fits : (D : Type 0) (device : D → Device) (v w : CacheView D) → v ≡ w → (at n : ℕ) → at + n ≤ (device w.disk).size
    → at + n ≤ (device v.disk).size
fits D device v w is at n room = subst (λ (x : CacheView D). at + n ≤ (device x.disk).size) (sym is) room

pub returns-clause-reads : goal.returns-clause-reads
returns-clause-reads g c =
    rw (← c.self.view_is)
    (is_read g.row.D.Denot g.D.Disk.device c.self.inside.disk c.read.new.self c.self.inside.len c.args.at (length c.args.into.now)
    (taken c.self.inside.collected) c.read.new.into c.show.new.into c.self.inside.reads c.self.inside.writes c.self.inside.syncs
    c.self.invariant.size
    (λ t. g.met.D.Disk.image_size c.self.inside.disk _ t (g.met.D.Disk.counts_content c.self.inside.disk t))
    (fits g.row.D.Denot g.D.Disk.device _ _ c.self.view_is c.args.at (length c.args.into.now) c.requires)
    (omega (arith, c.show.auto.into, c.read.auto.into))
    (λ k within. c.show.ensures k (omega (arith, within, c.read.auto.into))) c.in_ok-read.ensures)
