use Rattle.std.proofs.Common.{◌≡◌, ◌≤◌, ℕ, ◌+◌, List, length, Option, sym, ◌∙◌, ap, subst, arith}
use Rattle.disk.specs.Device.{Device}
use Rattle.disk_cache.specs.Cache.{CacheView}
use Rattle.disk_cache.specs.Taken.{taken}
use Rattle.disk_cache.proofs.Caching.{collects, none_past, not_written, written}
use Rattle.disk_cache.proofs.Places.{places_same}
use Rattle.disk_cache.proofs.WCacheDisk.write.Goals as goal
use Rattle.disk_cache.proofs.Sizes.{sized}

fits : (D : Type 0) (device : D → Device) (v w : CacheView D) → v ≡ w → (at : ℕ) (from : List ℕ) → at + length from ≤ (device w.disk).size
    → at + length from ≤ (device v.disk).size
fits D device v w is at from room = subst (λ (x : CacheView D). at + length from ≤ (device x.disk).size) (sym is) room

pub invariant_of-self : goal.invariant_of-self
invariant_of-self g c = record {
  size = c.self.invariant.size;
  past = none_past (g.D.Disk.device c.self.inside.disk) c.self.inside.len c.args.at c.args.from.now (taken c.self.inside.collected)
      (taken c.collect.new.self) c.self.invariant.size
      (λ t. sized g.row.D.Denot g.D.Disk.device g.met.D.Disk.image_size g.met.D.Disk.counts_content c.self.inside.disk t)
      (fits g.row.D.Denot g.D.Disk.device _ _ c.self.view_is c.args.at c.args.from.now c.requires) c.in-Ok.ensures.inside
      c.in-Ok.ensures.outside c.self.invariant.past;
}

pub invariant_of-self-in-Err : goal.invariant_of-self-in-Err
invariant_of-self-in-Err g c = record {
  size = c.self.invariant.size;
  past = λ k past. c.in-Err.ensures.refused k
      ∙ c.self.invariant.past k past;
}

pub returns-in-Ok-clause-collects : goal.returns-in-Ok-clause-collects
returns-in-Ok-clause-collects g c =
    rw (← c.self.view_is) (collects (g.D.Disk.device c.self.inside.disk) c.self.inside.len c.args.at c.args.from.now
    (taken c.self.inside.collected) (taken c.collect.new.self) c.self.invariant.size
    (λ t. sized g.row.D.Denot g.D.Disk.device g.met.D.Disk.image_size g.met.D.Disk.counts_content c.self.inside.disk t)
    (fits g.row.D.Denot g.D.Disk.device _ _ c.self.view_is c.args.at c.args.from.now c.requires) c.in-Ok.ensures.inside
    c.in-Ok.ensures.outside c.self.invariant.past)

pub returns-in-Ok-clause-writes : goal.returns-in-Ok-clause-writes
returns-in-Ok-clause-writes g c =
    rw (← c.self.view_is) (written g.row.D.Denot g.D.Disk.device c.self.inside.disk c.self.inside.len c.args.at c.args.from.now
    (taken c.self.inside.collected) (taken c.collect.new.self) c.self.inside.reads c.self.inside.writes c.self.inside.syncs
    c.self.invariant.size (λ image t left. g.met.D.Disk.image_size c.self.inside.disk image t left)
    (λ t. sized g.row.D.Denot g.D.Disk.device g.met.D.Disk.image_size g.met.D.Disk.counts_content c.self.inside.disk t)
    (fits g.row.D.Denot g.D.Disk.device _ _ c.self.view_is c.args.at c.args.from.now c.requires) c.in-Ok.ensures.inside
    c.in-Ok.ensures.outside c.self.invariant.past (λ k. omega (arith, c.type_inv.from k)))

pub returns-in-Err-clause-untouched : goal.returns-in-Err-clause-untouched
returns-in-Err-clause-untouched g c =
    rw (← c.self.view_is)
    (ap (λ (cs : List (Option ℕ)). let w : CacheView g.row.D.Denot =
    record {
      disk = c.self.inside.disk;
      collected = cs;
      reads = c.self.inside.reads;
      writes = c.self.inside.writes;
      syncs = c.self.inside.syncs;
    } in w)
    (places_same (taken c.self.inside.collected) (taken c.collect.new.self) c.self.inside.len c.in-Err.ensures.refused))

pub returns-in-Err-clause-writes : goal.returns-in-Err-clause-writes
returns-in-Err-clause-writes g c =
    rw (
      ← c.self.view_is,
      places_same (taken c.self.inside.collected) (taken c.collect.new.self) c.self.inside.len c.in-Err.ensures.refused,
    ) (not_written c.args.at c.args.from.now _)
