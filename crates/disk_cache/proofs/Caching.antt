-- The clauses of each call of a cache, by what its parts did.
use Rattle.std.proofs.Common.{◌≡◌, ◌⊎◌, inl, inr, ◌<◌, ◌≤◌, ℕ, ◌+◌, ◌-◌, ◌||◌, Bool, true, IsTrue, List, length, get_or, map, Option}
use Rattle.std.proofs.Common.{Some, None, refl, sym, ◌∙◌, ap, subst, arith, Result, Ok, Err}
use Rattle.std.specs.Option.{unwrap_or}
use Rattle.disk.specs.Calls.{Makes, Reads, Syncs, Writes}
use Rattle.disk.specs.Device.{Device, Elapses, one_more}
use Rattle.disk.specs.declared.DiskError.{DiskError}
use Rattle.disk.specs.declared.DiskError.TheVariants.{Fault, Memory}
use Rattle.disk.specs.Image.{overwritten, part, Torn}
use Rattle.disk_cache.specs.Cache.{CacheView, cache_device}
use Rattle.disk_cache.specs.Collected.{MayLeave, shown}
use Rattle.disk_cache.specs.Runs.{calls_of, runs_from}
use Rattle.disk_cache.specs.Slots.{places}
use Rattle.disk_cache.proofs.Blocks.{length-places, places_at}
use Rattle.disk_cache.proofs.Cached.{collected_torn, leaves_durable, leaves_given, leaves_less, leaves_synced, left_collected, left_given}
use Rattle.disk_cache.proofs.Cached.{left_less, left_synced, shown_collected, written_is_shown}
use Rattle.disk_cache.proofs.Chain.{AreDurable, IsGiven, durable, given, none_yet}
use Rattle.disk_cache.proofs.Places.{places_collected}
use Rattle.disk_cache.proofs.RunLaws.{runs_parts}
use Rattle.disk_cache.proofs.Showing.{shown_none, shown_part}

-- octets that were collected over a device
module _ (dev : Device) (len at : ℕ) (from : List ℕ) (old new : ℕ → Option ℕ) (size : dev.size ≡ len) (sized : IsTrue dev.tells
    → length dev.content ≡ dev.size) (fits : at + length from ≤ dev.size)
    (inside : (k : ℕ) → at ≤ k → k < at + length from → new k ≡ Some (get_or from (k - at) 0))
    (outside : (k : ℕ) → (k < at) ⊎ (at + length from ≤ k) → new k ≡ old k)
    (past : (k : ℕ) → len ≤ k → old k ≡ None) where
  in_len : at + length from ≤ len
  in_len = omega (arith, size, fits)

  in_places : at + length from ≤ length (places old len)
  in_places = let n = length-places old len in omega (arith, n, in_len)

  pub collects : places new len ≡ overwritten at (map (λ (o : ℕ). Some o) from) (places old len)
  collects = places_collected old new len at from in_len inside outside

  -- nothing behind the end
  pub none_past : (k : ℕ) → len ≤ k → new k ≡ None
  none_past k behind = outside k (inr (omega (arith, behind, in_len))) ∙ past k behind

  pub collects_content : IsTrue dev.tells → shown (places new len) dev.content ≡ overwritten at from (shown (places old len) dev.content)
  collects_content t =
      let whole = sized t in
      let n = length-places old len in
      ap (λ (cs : List (Option ℕ)). shown cs dev.content) collects
      ∙ shown_collected (places old len) at from in_places dev.content (omega (arith, whole, n, size))

  pub collects_crash : (dev_sized : (c : List ℕ) → dev.may_leave c → length c ≡ dev.size) → ((i : ℕ) → get_or from i 0 < 256) → (c : List ℕ)
      → MayLeave dev (places new len) c → (d : List ℕ) × MayLeave dev (places old len) d × Torn at (length from) d c
  collects_crash dev_sized octets c left =
      let now = subst (λ (cs : List (Option ℕ)). MayLeave dev cs c) collects left in
      let whole = dev_sized now.0 now.1.0 in
      let n = length-places old len in
      let torn = collected_torn (places old len) at from in_places octets now.0 c (omega (arith, whole, n, size)) now.1.1 in
      (torn.0, (now.0, (now.1.0, torn.1.0)), torn.1.1)

-- what a read gives, where the device below gave these octets
read_value : (dev : Device) (len at n : ℕ) (taken : ℕ → Option ℕ) (below into : List ℕ) → dev.size ≡ len → length dev.content ≡ dev.size
    → at + n ≤ dev.size → length into ≡ n → below ≡ part at n dev.content
    → ((k : ℕ) → k < n → get_or into k 0 ≡ unwrap_or (taken (at + k)) (get_or below k 0))
    → into ≡ part at n (shown (places taken len) dev.content)
read_value dev len at n taken below into size sized fits into_size is each =
    shown_part (places taken len) dev.content below into at n (omega (arith, fits, sized)) into_size is
    (λ k within. each k within ∙ ap (λ (c : Option ℕ). unwrap_or c (get_or below k 0))
    (sym (places_at taken len (at + k) (omega (arith, within, fits, size)))))

-- a write that was refused for want of memory changed nothing
pub not_written : (at : ℕ) (octets : List ℕ) (d : Device) → Writes true at octets (Err Memory) d d
not_written at octets d = record {
  content = λ t. tt;
  crash = λ t c left.
      (c, left, record { size = refl; below = λ k low. refl; above = λ k high. refl; octets = λ k low high. inl refl });
  since = λ t time c before left. inl left;
  time = same;
  call = λ is. absurd cc;
  cause = record { ok = tt; fault = λ is. absurd cc };
  refused = λ is. record {
    time = same;
    content = λ t. refl;
    crash = λ t c left. left;
    since = λ t time c before left. left;
    reads = refl;
    writes = refl;
    syncs = refl;
    failures = refl;
  };
  memory = λ is. refl;
}
  where
    same : Elapses d d
    same = record { size = refl; tells = refl; later = omega arith }

module _ (D : Type 0) (device : D → Device) where
  -- a cache with these octets collected
  abbrev cache : D → List (Option ℕ) → (reads writes syncs : ℕ) → CacheView D
  cache d cs reads writes syncs = record { disk = d; collected = cs; reads = reads; writes = writes; syncs = syncs }

  -- a read, where the device below gave these octets
  pub is_read : (first last : D) (len at n : ℕ) (taken : ℕ → Option ℕ) (below into : List ℕ) (reads writes syncs : ℕ)
      → (device first).size ≡ len → (IsTrue (device first).tells → length (device first).content ≡ (device first).size)
      → at + n ≤ (device first).size → length into ≡ n
      → ((k : ℕ) → k < n → get_or into k 0 ≡ unwrap_or (taken (at + k)) (get_or below k 0))
      → Reads at n below (Ok tt) (device first) (device last)
      → Reads at n into (Ok tt) (cache_device device (cache first (places taken len) reads writes syncs))
      (cache_device device (cache last (places taken len) (one_more reads) writes syncs))
  is_read first last len at n taken below into reads writes syncs size sized fits into_size each did = record {
    value = λ t. read_value (device first) len at n taken below into size (sized t) fits into_size (did.value t) each;
    content = λ t. ap (shown (places taken len)) (did.content t);
    crash = λ t. leaves_less (places taken len) (device first) (device last) (did.crash t);
    since = λ t. left_less (places taken len) (device first) (device last) (did.crash t) (did.since t);
    time = record { size = did.time.size; tells = did.time.tells; later = did.time.later };
    call = record { reads = refl; writes = refl; syncs = refl };
    cause = record { ok = did.cause.ok; fault = tt };
    no_memory = tt;
  }

  -- a write whose octets were collected
  pub written : (d : D) (len at : ℕ) (from : List ℕ) (old new : ℕ → Option ℕ) (reads writes syncs : ℕ) → (device d).size ≡ len
      → ((c : List ℕ) → IsTrue (device d).tells → (device d).may_leave c → length c ≡ (device d).size)
      → (IsTrue (device d).tells → length (device d).content ≡ (device d).size) → at + length from ≤ (device d).size
      → ((k : ℕ) → at ≤ k → k < at + length from → new k ≡ Some (get_or from (k - at) 0))
      → ((k : ℕ) → (k < at) ⊎ (at + length from ≤ k) → new k ≡ old k) → ((k : ℕ) → len ≤ k → old k ≡ None)
      → ((i : ℕ) → get_or from i 0 < 256)
      → Writes true at from (Ok tt) (cache_device device (cache d (places old len) reads writes syncs))
      (cache_device device (cache d (places new len) reads (one_more writes) syncs))
  written d len at from old new reads writes syncs size image_size sized fits inside outside past octets = record {
    content = collects_content (device d) len at from old new size sized fits inside outside past;
    crash = λ t. torn t;
    since = λ t time c before left.
        left_collected (places old len) (device d) (device d) (places new len) _ (torn t) time c left;
    time = record { size = refl; tells = refl; later = omega arith };
    call = record { reads = refl; writes = refl; syncs = refl };
    cause = record { ok = refl; fault = tt };
    refused = tt;
    memory = tt;
  }
    where
      torn : IsTrue (device d).tells → (c : List ℕ) → MayLeave (device d) (places new len) c
          → (e : List ℕ) × MayLeave (device d) (places old len) e × Torn at (length from) e c
      torn t = collects_crash (device d) len at from old new size sized fits inside outside past (λ c left. image_size c t left) octets

  -- a sync
  module _ (write_grows sync_grows : Bool) (sized : (d : D) → IsTrue (device d).tells → length (device d).content ≡ (device d).size)
      (first last : D) (cs : List (Option ℕ)) (few : length cs ≤ (device first).size) (reads writes syncs : ℕ) where
    pub sync_given : (result : Result (Unit {0}) DiskError) → Makes device write_grows sync_grows (calls_of cs) result first last
        → IsGiven cs (write_grows || sync_grows) result (device first) (device last)
    sync_given result made = given D device write_grows sync_grows sized cs first few (runs_from 0 cs) result first last
        (runs_parts cs 0) (none_yet cs (device first)) made

    -- a refused one: what was collected stays
    pub not_synced : (e : DiskError) (asked : ℕ) → (e ≡ Fault → asked ≡ one_more syncs) → (e ≡ Memory → asked ≡ syncs)
        → Makes device write_grows sync_grows (calls_of cs) (Err e) first last
        → Syncs (write_grows || sync_grows) (Err e) (cache_device device (cache first cs reads writes syncs))
        (cache_device device (cache last cs reads writes asked))
    not_synced e asked counted uncounted made =
        let after = sync_given (Err e) made in
        let time : Elapses (cache_device device (cache first cs reads writes syncs))
        (cache_device device (cache last cs reads writes asked)) =
        record { size = after.time.size; tells = after.time.tells; later = after.time.later } in
        let crash = λ (t : IsTrue (device first).tells). leaves_given cs (device first) (device last) (after.crash t) in
        let since = λ (t : IsTrue (device first).tells). left_given cs (device first) (device last) (after.crash t) (after.since t) in
        record {
          durable = λ t. tt;
          content = λ t. tt;
          crash = crash;
          since = since;
          time = time;
          call = λ is. record { reads = refl; writes = refl; syncs = counted is };
          cause = record { ok = tt; fault = after.cause.fault };
          refused = λ is. record {
            time = time;
            content = λ t. after.refused t is;
            crash = crash;
            since = since;
            reads = refl;
            writes = refl;
            syncs = uncounted is;
            failures = after.uncounted is;
          };
          memory = after.memory;
        }

    -- a good one: nothing is collected any more
    pub is_synced : (nones : List (Option ℕ)) → ((k : ℕ) → get_or nones k None ≡ None)
        → Makes device write_grows sync_grows (calls_of cs) (Ok tt) first last
        → Syncs (write_grows || sync_grows) (Ok tt) (cache_device device (cache first cs reads writes syncs))
        (cache_device device (cache last nones reads writes (one_more syncs)))
    is_synced nones none made =
        let after = sync_given (Ok tt) made in
        record {
          durable = λ t. leaves_durable cs (device first) (device last) nones none (shown cs (device first).content) (image t).only;
          content = λ t. shown_none nones (device last).content none ∙ (image t).content;
          crash = λ t. leaves_synced cs (device first) (device last) nones none (after.crash t);
          since = λ t. left_synced cs (device first) (device last) nones none (after.crash t) (after.since t);
          time = record { size = after.time.size; tells = after.time.tells; later = after.time.later };
          call = record { reads = refl; writes = refl; syncs = refl };
          cause = record { ok = after.cause.ok; fault = tt };
          refused = tt;
          memory = tt;
        }
      where
        image : IsTrue (device first).tells
            → AreDurable D device write_grows sync_grows sized (shown cs (device first).content) last
        image t =
            let whole = sized first t in
            subst (λ (image : List ℕ). AreDurable D device write_grows sync_grows sized image last)
            (written_is_shown cs (device first).content (omega (arith, whole, few)))
            (durable D device write_grows sync_grows sized (runs_from 0 cs) first last made t)
