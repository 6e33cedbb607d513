use Rattle.std.proofs.Common.{ℕ, replicate, Option, None, Ok, Err, refl, sym, ◌∙◌, ap, arith}
use Rattle.disk_cache.specs.Slots.{places}
use Rattle.disk_cache.specs.Taken.{taken}
use Rattle.disk_cache.proofs.Blocks.{length-places}
use Rattle.disk_cache.proofs.Caching.{is_synced, not_synced, sync_given}
use Rattle.disk_cache.proofs.Places.{get_or-places_none, places_none, places_same}
use Rattle.disk_cache.proofs.WCacheDisk.sync.Goals as goal
use Rattle.disk_cache.proofs.Sizes.{sized}

pub invariant_of-self : goal.invariant_of-self
invariant_of-self g c =
    let n = length-places (taken c.self.inside.collected) c.self.inside.len in
    record {
      size = (sync_given g.row.D.Denot g.D.Disk.device g.D.Disk.write_grows g.D.Disk.sync_grows
          (sized g.row.D.Denot g.D.Disk.device g.met.D.Disk.image_size g.met.D.Disk.counts_content) c.self.inside.disk
          c.give_and_sync.new.disk (places (taken c.self.inside.collected) c.self.inside.len)
          (omega (arith, n, c.self.invariant.size)) 0 0 0 (Ok tt) (c.in-Ok.ensures.makes c.self.inside.len c.self.invariant.past)).time.size
          ∙ c.self.invariant.size;
      past = λ k past. c.clear.ensures.none k;
    }

pub returns-in-Ok-clause-calls : goal.returns-in-Ok-clause-calls
returns-in-Ok-clause-calls g c = rw (← c.self.view_is) (c.in-Ok.ensures.makes c.self.inside.len c.self.invariant.past)

pub returns-in-Ok-clause-forgets : goal.returns-in-Ok-clause-forgets
returns-in-Ok-clause-forgets g c =
    rw (← c.self.view_is)
    (places_none (taken c.clear.new.self) c.self.inside.len c.clear.ensures.none
    ∙ ap (λ (n : ℕ). replicate n (let none : Option ℕ = None in none))
    (sym (length-places (taken c.self.inside.collected) c.self.inside.len)))

pub returns-in-Ok-clause-syncs : goal.returns-in-Ok-clause-syncs
returns-in-Ok-clause-syncs g c =
    let n = length-places (taken c.self.inside.collected) c.self.inside.len in
    rw (← c.self.view_is)
    (is_synced g.row.D.Denot g.D.Disk.device g.D.Disk.write_grows g.D.Disk.sync_grows
    (sized g.row.D.Denot g.D.Disk.device g.met.D.Disk.image_size g.met.D.Disk.counts_content) c.self.inside.disk
    c.give_and_sync.new.disk (places (taken c.self.inside.collected) c.self.inside.len) (omega (arith, n, c.self.invariant.size))
    c.self.inside.reads c.self.inside.writes c.self.inside.syncs (places (taken c.clear.new.self) c.self.inside.len)
    (get_or-places_none (taken c.clear.new.self) c.self.inside.len c.clear.ensures.none)
    (c.in-Ok.ensures.makes c.self.inside.len c.self.invariant.past))

pub invariant_of-self-in-Err-Fault : goal.invariant_of-self-in-Err-Fault
invariant_of-self-in-Err-Fault g c =
    let n = length-places (taken c.self.inside.collected) c.self.inside.len in
    record {
      size = (sync_given g.row.D.Denot g.D.Disk.device g.D.Disk.write_grows g.D.Disk.sync_grows
          (sized g.row.D.Denot g.D.Disk.device g.met.D.Disk.image_size g.met.D.Disk.counts_content) c.self.inside.disk
          c.give_and_sync.new.disk (places (taken c.self.inside.collected) c.self.inside.len)
          (omega (arith, n, c.self.invariant.size)) 0 0 0 (Err c.in-Err-Fault.field-0)
          (c.in-Err-Fault.ensures.makes c.self.inside.len c.self.invariant.past)).time.size ∙ c.self.invariant.size;
      past = λ k past. c.give_and_sync.ensures.same k ∙ c.self.invariant.past k past;
    }

pub returns-in-Err-Fault-clause-calls : goal.returns-in-Err-Fault-clause-calls
returns-in-Err-Fault-clause-calls g c =
    rw (← c.self.view_is, ← c.in-Err-Fault.field-0-is) (c.in-Err-Fault.ensures.makes c.self.inside.len c.self.invariant.past)

pub returns-in-Err-Fault-clause-keeps : goal.returns-in-Err-Fault-clause-keeps
returns-in-Err-Fault-clause-keeps g c =
    rw (← c.self.view_is)
    (places_same (taken c.self.inside.collected) (taken c.give_and_sync.new.collected) c.self.inside.len
    c.give_and_sync.ensures.same)

pub returns-in-Err-Fault-clause-syncs : goal.returns-in-Err-Fault-clause-syncs
returns-in-Err-Fault-clause-syncs g c =
    let n = length-places (taken c.self.inside.collected) c.self.inside.len in
    rw (
      ← c.self.view_is,
      places_same (taken c.self.inside.collected) (taken c.give_and_sync.new.collected) c.self.inside.len
          c.give_and_sync.ensures.same,
      ← c.in-Err-Fault.field-0-is,
    ) (not_synced g.row.D.Denot g.D.Disk.device g.D.Disk.write_grows g.D.Disk.sync_grows
    (sized g.row.D.Denot g.D.Disk.device g.met.D.Disk.image_size g.met.D.Disk.counts_content) c.self.inside.disk
    c.give_and_sync.new.disk (places (taken c.self.inside.collected) c.self.inside.len) (omega (arith, n, c.self.invariant.size))
    c.self.inside.reads c.self.inside.writes c.self.inside.syncs c.in-Err-Fault.field-0 _ (λ is. refl) (λ is. cc)
    (c.in-Err-Fault.ensures.makes c.self.inside.len c.self.invariant.past))

pub invariant_of-self-in-Err-Memory : goal.invariant_of-self-in-Err-Memory
invariant_of-self-in-Err-Memory g c =
    let n = length-places (taken c.self.inside.collected) c.self.inside.len in
    record {
      size = (sync_given g.row.D.Denot g.D.Disk.device g.D.Disk.write_grows g.D.Disk.sync_grows
          (sized g.row.D.Denot g.D.Disk.device g.met.D.Disk.image_size g.met.D.Disk.counts_content) c.self.inside.disk
          c.give_and_sync.new.disk (places (taken c.self.inside.collected) c.self.inside.len)
          (omega (arith, n, c.self.invariant.size)) 0 0 0 (Err c.in-Err-Memory.field-0)
          (c.in-Err-Memory.ensures.makes c.self.inside.len c.self.invariant.past)).time.size ∙ c.self.invariant.size;
      past = λ k past. c.give_and_sync.ensures.same k ∙ c.self.invariant.past k past;
    }

pub returns-in-Err-Memory-clause-calls : goal.returns-in-Err-Memory-clause-calls
returns-in-Err-Memory-clause-calls g c =
    rw (← c.self.view_is, ← c.in-Err-Memory.field-0-is) (c.in-Err-Memory.ensures.makes c.self.inside.len c.self.invariant.past)

pub returns-in-Err-Memory-clause-keeps : goal.returns-in-Err-Memory-clause-keeps
returns-in-Err-Memory-clause-keeps g c =
    rw (← c.self.view_is)
    (places_same (taken c.self.inside.collected) (taken c.give_and_sync.new.collected) c.self.inside.len
    c.give_and_sync.ensures.same)

pub returns-in-Err-Memory-clause-syncs : goal.returns-in-Err-Memory-clause-syncs
returns-in-Err-Memory-clause-syncs g c =
    let n = length-places (taken c.self.inside.collected) c.self.inside.len in
    rw (
      ← c.self.view_is,
      places_same (taken c.self.inside.collected) (taken c.give_and_sync.new.collected) c.self.inside.len
          c.give_and_sync.ensures.same,
      ← c.in-Err-Memory.field-0-is,
    ) (not_synced g.row.D.Denot g.D.Disk.device g.D.Disk.write_grows g.D.Disk.sync_grows
    (sized g.row.D.Denot g.D.Disk.device g.met.D.Disk.image_size g.met.D.Disk.counts_content) c.self.inside.disk
    c.give_and_sync.new.disk (places (taken c.self.inside.collected) c.self.inside.len) (omega (arith, n, c.self.invariant.size))
    c.self.inside.reads c.self.inside.writes c.self.inside.syncs c.in-Err-Memory.field-0 _ (λ is. cc) (λ is. refl)
    (c.in-Err-Memory.ensures.makes c.self.inside.len c.self.invariant.past))
