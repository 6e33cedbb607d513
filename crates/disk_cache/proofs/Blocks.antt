-- The runs of a block and of the blocks behind it, and calls one after the other.
use Rattle.std.proofs.Common.{◌≡◌, ◌⊎◌, inl, inr, ◌<◌, ◌≤◌, ℕ, zero, suc, ◌+◌, ◌-◌, ◌*◌, if◌then◌else◌, Bool, true, false}
use Rattle.std.proofs.Common.{List, [], ◌∷◌, ◌++◌}
use Rattle.std.proofs.Common.{length, get_or, map, take, drop, Option, Some, None, refl, sym, ◌∙◌, ap, subst, arith, length-take}
use Rattle.std.proofs.Common.{length-drop, Result, Ok, Err, IsErr}
use Rattle.std.proofs.lemmas.List.{length-map, ext_get_or, drop-drop, get_or-drop, get_or-take, get_or_append_left, get_or-append_right}
use Rattle.std.proofs.lemmas.List.{get_or_past, take-append-drop, map-append}
use Rattle.std.proofs.lemmas.List.FromFn.{length-map-range_with_len, get_or-map-range_with_len}
use Rattle.std.proofs.lemmas.Bool.{cases_Bool, cases_lt}
use Rattle.disk.specs.Calls.{Call, Does, Makes, Writes}
use Rattle.disk.specs.Device.{Device}
use Rattle.disk.specs.Image.{part}
use Rattle.disk.specs.declared.DiskError.{DiskError}
use Rattle.disk.proofs.Images.{length-part, get_or-part}
use Rattle.disk_cache.specs.Runs.{Run, runs_from, writes_of}
use Rattle.disk_cache.specs.Slots.{AreSlots, IsNextRun, cell, is_collected, places}
use Rattle.disk_cache.specs.declared.collected.Fill.{Fill}
use Rattle.disk_cache.proofs.RunLaws.{runs_front, runs_same, runs_skip, runs_split}
use Rattle.disk_cache.proofs.Slots.{cell_collected}

pub length-places : (taken : ℕ → Option ℕ) (n : ℕ) → length (places taken n) ≡ n
length-places taken n = length-map-range_with_len taken 0 n

pub places_at : (taken : ℕ → Option ℕ) (n k : ℕ) → k < n → get_or (places taken n) k None ≡ taken k
places_at taken n k within = get_or-map-range_with_len taken 0 n k k None within (omega arith)

-- where nothing is behind the end
pub places_all : (taken : ℕ → Option ℕ) (n : ℕ) → ((k : ℕ) → n ≤ k → taken k ≡ None) → (k : ℕ) → get_or (places taken n) k None ≡ taken k
places_all taken n none k = choose (cases_lt k n)
  where
    choose : (k < n) ⊎ (n ≤ k) → get_or (places taken n) k None ≡ taken k
    choose (inl within) = places_at taken n k within
    choose (inr past) = get_or_past (places taken n) k None (let size = length-places taken n in omega (arith, size, past))
        ∙ sym (none k past)

-- a run in front
pub run_first : (ps : List ℕ) (at : ℕ) (rest : List (Option ℕ)) → 1 ≤ length ps → get_or rest 0 None ≡ None
    → runs_from at (map (λ (o : ℕ). Some o) ps ++ rest) ≡ record { at = at; octets = ps } ∷ runs_from (at + length ps) rest
run_first [] at rest some ends = absurd (omega (arith, some))
run_first (o ∷ os) at rest some ends =
    let same : at + length os + 1 ≡ at + suc (length os) = omega arith in
    runs_front os o at rest ends ∙ ap (λ (k : ℕ). record { at = at; octets = o ∷ os } ∷ runs_from k rest) same

cell_none : (fills : List Fill) (flags octets : List ℕ) (p : ℕ) → (is_collected fills flags p ≡ true → ⊥) → cell fills flags octets p ≡ None
cell_none fills flags octets p other = elim (cases_Bool (is_collected fills flags p)) [
  | inl is ↦ absurd (other is)
  | inr isnt ↦ ap (λ (b : Bool). if b then Some (get_or octets p 0) else None) isnt
]

-- the run from a place with a collected octet up to the first without one
pub next_run : (fills : List Fill) (flags : List ℕ) (from first past : ℕ) → from ≤ first → first < length flags
    → (first ≡ length flags) ⊎ (is_collected fills flags first ≡ true)
    → ((k : ℕ) → from ≤ k → k < first → is_collected fills flags k ≡ true → ⊥)
    → first ≤ past → past ≤ length flags → ((k : ℕ) → first ≤ k → k < past → is_collected fills flags k ≡ false → ⊥)
    → (past ≡ length flags) ⊎ (is_collected fills flags past ≡ false) → IsNextRun fills flags from first past
next_run fills flags from first past low within found none over high each ends = record {
  low = low;
  some = longer found ends;
  high = high;
  none = none;
  each = λ k after before. elim (cases_Bool (is_collected fills flags k)) [
    | inl is ↦ is
    | inr isnt ↦ absurd (each k after before isnt)
  ];
  ends = ends;
}
  where
    longer : (first ≡ length flags) ⊎ (is_collected fills flags first ≡ true)
        → (past ≡ length flags) ⊎ (is_collected fills flags past ≡ false)
        → first < past
    longer (inl at_end) ends = absurd (omega (arith, at_end, within))
    longer (inr is) (inl at_end) = omega (arith, at_end, within)
    longer (inr is) (inr isnt) = elim (cases_lt first past) [
      | inl before ↦ before
      | inr behind ↦
          let same : first ≡ past = omega (arith, behind, over) in
          absurd (let two : true ≡ false = sym is ∙ ap (λ (k : ℕ). is_collected fills flags k) same ∙ isnt in cc)
    ]

-- one run of adjacent slots
module _ (fills : List Fill) (flags octets : List ℕ) (start from : ℕ) (whole : length octets ≡ length flags) (within : from ≤ length flags)
  where
    abbrev cs : List (Option ℕ)
    cs = places (cell fills flags octets) (length flags)

    size : length cs ≡ length flags
    size = length-places (cell fills flags octets) (length flags)

    at_place : (k : ℕ) → k < length flags → get_or cs k None ≡ cell fills flags octets k
    at_place k low = places_at (cell fills flags octets) (length flags) k low

    -- no collected octet from one place up to another
    pub skipped : (to : ℕ) → from ≤ to → to ≤ length flags → ((k : ℕ) → from ≤ k → k < to → is_collected fills flags k ≡ true → ⊥)
        → runs_from (start + from) (drop from cs) ≡ runs_from (start + to) (drop to cs)
    skipped to low high none =
        let place : start + from + (to - from) ≡ start + to = omega (arith, low) in
        let behind : from + (to - from) ≡ to = omega (arith, low) in
        runs_skip (to - from) (start + from) (drop from cs) (λ k below. get_or-drop from cs k None
        ∙ at_place (from + k) (omega (arith, below, high))
        ∙ cell_none fills flags octets (from + k) (none (from + k) (omega arith) (omega (arith, below))))
        ∙ ap (λ (n : ℕ). runs_from n (drop (to - from) (drop from cs))) place
        ∙ ap (λ (l : List (Option ℕ)). runs_from (start + to) l) (drop-drop (to - from) from cs ∙ ap (λ (n : ℕ). drop n cs) behind)

    pub one_run : (first past : ℕ) → IsNextRun fills flags from first past
        → runs_from (start + from) (drop from cs) ≡ record { at = start + first; octets = part first (past - first) octets } ∷ runs_from
        (start + past) (drop past cs)
    one_run first past run =
        let some = run.some in
        let high = run.high in
        let behind : start + first + length (part first (past - first) octets) ≡ start + past = omega (arith, piece_size, some) in
        skipped first run.low (omega (arith, some, high)) run.none
        ∙ ap (λ (l : List (Option ℕ)). runs_from (start + first) l) cut
        ∙ run_first (part first (past - first) octets) (start + first) (drop past cs) (omega (arith, piece_size, some)) finish
        ∙ ap (λ (n : ℕ). record { at = start + first; octets = (part first (past - first) octets) } ∷ runs_from n (drop past cs)) behind
      where
        piece_size : length (part first (past - first) octets) ≡ past - first
        piece_size = length-part first (past - first) octets (omega (arith, whole, run.some, run.high))

        front : take (past - first) (drop first cs) ≡ map (λ (o : ℕ). Some o) (part first (past - first) octets)
        front =
            ext_get_or None (take (past - first) (drop first cs)) (map (λ (o : ℕ). Some o) (part first (past - first) octets))
            (omega (
              arith,
              length-take (past - first) (drop first cs),
              length-drop first cs,
              size,
              length-map (part first (past - first) octets) (λ (o : ℕ). Some o),
              piece_size,
              run.some,
              run.high,
            ))
            (λ k below.
            let k_low : k < past - first = omega (arith, below, length-take (past - first) (drop first cs)) in
            get_or-take (past - first) (drop first cs) k None k_low
            ∙ get_or-drop first cs k None
            ∙ at_place (first + k) (omega (arith, k_low, run.high))
            ∙ cell_collected fills flags octets (first + k) (run.each (first + k) (omega arith) (omega (arith, k_low)))
            ∙ ap (λ (o : ℕ). Some o) (sym (get_or-part first (past - first) octets k 0 k_low))
            ∙ mapped (part first (past - first) octets) k (omega (arith, k_low, piece_size)))
          where
            mapped : (ps : List ℕ) (k : ℕ) → k < length ps → Some (get_or ps k 0) ≡ get_or (map (λ (o : ℕ). Some o) ps) k None
            mapped [] k below = absurd (omega (arith, below))
            mapped (p ∷ ps) zero below = refl
            mapped (p ∷ ps) (suc k) below = mapped ps k (omega (arith, below))

        cut : drop first cs ≡ map (λ (o : ℕ). Some o) (part first (past - first) octets) ++ drop past cs
        cut =
            let place : first + (past - first) ≡ past = omega (arith, run.some) in
            sym (take-append-drop (past - first) (drop first cs))
            ∙ ap (λ (l : List (Option ℕ)). l ++ drop (past - first) (drop first cs)) front
            ∙ ap (λ (l : List (Option ℕ)). map (λ (o : ℕ). Some o) (part first (past - first) octets) ++ l)
            (drop-drop (past - first) first cs
            ∙ ap (λ (n : ℕ). drop n cs) place)

        not_past : past < length flags → (past ≡ length flags) ⊎ (is_collected fills flags past ≡ false)
            → is_collected fills flags past ≡ true → ⊥
        not_past below (inl at_end) is = omega (arith, at_end, below)
        not_past below (inr isnt) is = let two : true ≡ false = sym is ∙ isnt in cc

        finish : get_or (drop past cs) 0 None ≡ None
        finish = elim (cases_lt past (length flags)) [
          | inl below ↦
              let place : past + 0 ≡ past = omega arith in
              get_or-drop past cs 0 None ∙ ap (λ (n : ℕ). get_or cs n None) place ∙ at_place past below
              ∙ cell_none fills flags octets past (not_past below run.ends)
          | inr above ↦ get_or_past (drop past cs) 0 None (omega (arith, length-drop past cs, size, above))
        ]

-- ---- calls one after the other

module _ {D : Type 0} (device : D → Device) (write_grows sync_grows : Bool) where
  pub makes_append : (front back : List Call) (result : Result (Unit {0}) DiskError) (old mid last : D)
      → Makes device write_grows sync_grows front (Ok tt) old mid
      → Makes device write_grows sync_grows back result mid last → Makes device write_grows sync_grows (front ++ back) result old last
  makes_append [] back result old mid last none more = subst (λ (d : D). Makes device write_grows sync_grows back result d last) none.1 more
  makes_append (call ∷ front) back result old mid last (inl did) more =
      inl (did.0, (did.1.0, makes_append front back result did.0 mid last did.1.1 more))
  makes_append (call ∷ front) back result old mid last (inr refused) more = absurd (no_err refused.0)
    where
      no_err : IsErr {T = Unit {0}} {E = DiskError} (Ok tt) → ⊥
      no_err is = cc

  -- a refusal ends them
  pub makes_cut : (front back : List Call) (e : DiskError) (old last : D) → Makes device write_grows sync_grows front (Err e) old last
      → Makes device write_grows sync_grows (front ++ back) (Err e) old last
  makes_cut [] back e old last none = absurd (no_ok e (Err e) refl none.0)
    where
      no_ok : (e : DiskError) (r : Result (Unit {0}) DiskError) → r ≡ Err e → r ≡ Ok tt → ⊥
      no_ok e r is other = cc
  makes_cut (call ∷ front) back e old last (inl did) = inl (did.0, (did.1.0, makes_cut front back e did.0 last did.1.1))
  makes_cut (call ∷ front) back e old last (inr refused) = inr refused

  pub makes_one : (call : Call) (result : Result (Unit {0}) DiskError) (old new : D)
      → Does write_grows sync_grows call result (device old) (device new)
      → Makes device write_grows sync_grows (call ∷ []) result old new
  makes_one call (Ok x) old new did = inl (new, (did, (refl, refl)))
  makes_one call (Err e) old new did = inr (refl, did)

  -- whatever the rest of the calls do, all of them do
  pub record IsGivingTo (all rest : List Call) (first now : D) : Type 0 where
    pub continues : (result : Result (Unit {0}) DiskError) (last : D) → Makes device write_grows sync_grows rest result now last
        → Makes device write_grows sync_grows all result first last
    pub size : (device now).size ≡ (device first).size

  pub giving_starts : (start : ℕ) (cs : List (Option ℕ)) (d : D)
      → IsGivingTo (writes_of (runs_from start cs)) (writes_of (runs_from (start + 0) (drop 0 cs))) d d
  giving_starts start cs d = record {
    continues = λ result last made.
        let same : start + 0 ≡ start = omega arith in
        subst (λ (n : ℕ). Makes device write_grows sync_grows (writes_of (runs_from n cs)) result d last) same made;
    size = refl;
  }

  -- one more good write
  pub giving_more : (all : List Call) (run : Run) (runs : List Run) (first now next : D) → IsGivingTo all (writes_of (run ∷ runs)) first now
      → Writes write_grows run.at run.octets (Ok tt) (device now) (device next) → IsGivingTo all (writes_of runs) first next
  giving_more all run runs first now next so_far did = record {
    continues = λ result last made. so_far.continues result last (inl (next, (did, made)));
    size = did.time.size ∙ so_far.size;
  }

  pub giving_refused : (all : List Call) (run : Run) (runs : List Run) (first now next : D) (e : DiskError)
      → IsGivingTo all (writes_of (run ∷ runs)) first now → Writes write_grows run.at run.octets (Err e) (device now) (device next)
      → Makes device write_grows sync_grows all (Err e) first next
  giving_refused all run runs first now next e so_far did = so_far.continues (Err e) next (inr (refl, did))

  pub giving_done : (all : List Call) (runs : List Run) (first now : D) → runs ≡ [] → IsGivingTo all (writes_of runs) first now
      → Makes device write_grows sync_grows all (Ok tt) first now
  giving_done all runs first now none so_far =
      so_far.continues (Ok tt) now (subst (λ (rs : List Run). Makes device write_grows sync_grows (writes_of rs) (Ok tt) now now)
      (sym none) (refl, refl))

  writes_append : (xs ys : List Run) → writes_of (xs ++ ys) ≡ writes_of xs ++ writes_of ys
  writes_append xs ys = map-append (λ (run : Run). Call.Write run.at run.octets) xs ys

  -- the runs of one block more
  pub giving_block : (all : List Call) (xs ys : List Run) (first now next : D) → IsGivingTo all (writes_of (xs ++ ys)) first now
      → (device next).size ≡ (device now).size → Makes device write_grows sync_grows (writes_of xs) (Ok tt) now next
      → IsGivingTo all (writes_of ys) first next
  giving_block all xs ys first now next so_far size did = record {
    continues = λ result last made. so_far.continues result last
        (subst (λ (calls : List Call). Makes device write_grows sync_grows calls result now last) (sym (writes_append xs ys))
        (makes_append (writes_of xs) (writes_of ys) result now next last did made));
    size = size ∙ so_far.size;
  }

  pub giving_block_refused : (all : List Call) (xs ys : List Run) (first now next : D) (e : DiskError)
      → IsGivingTo all (writes_of (xs ++ ys)) first now → Makes device write_grows sync_grows (writes_of xs) (Err e) now next
      → Makes device write_grows sync_grows all (Err e) first next
  giving_block_refused all xs ys first now next e so_far did =
      so_far.continues (Err e) next (subst (λ (calls : List Call). Makes device write_grows sync_grows calls (Err e) now next)
      (sym (writes_append xs ys))
      (makes_cut (writes_of xs) (writes_of ys) e now next did))

-- ---- blocks of a table

module _ (taken : ℕ → Option ℕ) (block count : ℕ) where
  -- the octets of some blocks
  abbrev pub cells_of : List (Option ℕ)
  cells_of = drop (4096 * block) (places taken (4096 * block + 4096 * count))

  pub cells_size : length cells_of ≡ 4096 * count
  cells_size = let size = length-places taken (4096 * block + 4096 * count) in
      omega (arith, length-drop (4096 * block) (places taken (4096 * block + 4096 * count)), size)

  pub cells_at : (i : ℕ) → i < 4096 * count → taken (4096 * block + i) ≡ get_or cells_of i None
  cells_at i low =
      sym (get_or-drop (4096 * block) (places taken (4096 * block + 4096 * count)) i None
      ∙ places_at taken (4096 * block + 4096 * count) (4096 * block + i) (omega (arith, low)))

module _ (taken : ℕ → Option ℕ) (n : ℕ) (past : (k : ℕ) → n ≤ k → taken k ≡ None) where
  -- the octets from a block on
  abbrev pub cells_from : ℕ → List (Option ℕ)
  cells_from block = drop (4096 * block) (places taken n)

  from_at : (block k : ℕ) → get_or (cells_from block) k None ≡ taken (4096 * block + k)
  from_at block k = get_or-drop (4096 * block) (places taken n) k None ∙ places_all taken n past (4096 * block + k)

  -- the runs of some blocks, and those behind them, if the first octet there was not collected
  pub block_split : (block count : ℕ) → taken (4096 * (block + count)) ≡ None
      → runs_from (4096 * block) (cells_from block) ≡ runs_from (4096 * block) (cells_of taken block count)
      ++ runs_from (4096 * (block + count)) (cells_from (block + count))
  block_split block count gap =
      let size = cells_size taken block count in
      let behind : 4096 * block + length (cells_of taken block count) ≡ 4096 * (block + count) = omega (arith, size) in
      let first : 4096 * (block + count) + 0 ≡ 4096 * (block + count) = omega arith in
      runs_same (cells_from block) (cells_of taken block count ++ cells_from (block + count)) (4096 * block)
      (λ k. same k (cases_lt k (4096 * count)))
      ∙ runs_split (cells_of taken block count) (cells_from (block + count)) (4096 * block)
      (from_at (block + count) 0 ∙ ap (λ (k : ℕ). taken k) first ∙ gap)
      ∙ ap (λ (m : ℕ). runs_from (4096 * block) (cells_of taken block count) ++ runs_from m (cells_from (block + count))) behind
    where
      same : (k : ℕ) → (k < 4096 * count) ⊎ (4096 * count ≤ k)
          → get_or (cells_from block) k None ≡ get_or (cells_of taken block count ++ cells_from (block + count)) k None
      same k (inl low) =
          let size = cells_size taken block count in
          from_at block k ∙ cells_at taken block count k low
          ∙ sym (get_or_append_left (cells_of taken block count) (cells_from (block + count)) None k (omega (arith, low, size)))
      same k (inr high) =
          let place : 4096 * block + k ≡ 4096 * (block + count) + (k - 4096 * count) = omega (arith, high) in
          from_at block k
          ∙ ap (λ (m : ℕ). taken m) place
          ∙ sym (from_at (block + count) (k - 4096 * count))
          ∙ sym (get_or-append_right (cells_of taken block count) (cells_from (block + count)) (4096 * count) k None
          (cells_size taken block count) high)

  -- blocks without an octet are passed over
  pub blocks_skipped : (from block : ℕ) → from ≤ block → ((k : ℕ) → 4096 * from ≤ k → k < 4096 * block → taken k ≡ None)
      → runs_from (4096 * from) (cells_from from) ≡ runs_from (4096 * block) (cells_from block)
  blocks_skipped from block order none =
      let place : 4096 * from + (4096 * block - 4096 * from) ≡ 4096 * block = omega (arith, order) in
      runs_skip (4096 * block - 4096 * from) (4096 * from) (cells_from from) (λ k low. from_at from k
      ∙ none (4096 * from + k) (omega arith) (omega (arith, low)))
      ∙ ap (λ (l : List (Option ℕ)). runs_from (4096 * from + (4096 * block - 4096 * from)) l)
      (drop-drop (4096 * block - 4096 * from) (4096 * from) (places taken n))
      ∙ ap (λ (m : ℕ). runs_from m (drop m (places taken n))) place

  pub no_more : (from : ℕ) → ((k : ℕ) → 4096 * from ≤ k → taken k ≡ None) → runs_from (4096 * from) (cells_from from) ≡ []
  no_more from none = runs_same (cells_from from) [] (4096 * from) (λ k. from_at from k ∙ none (4096 * from + k) (omega arith))

  -- the runs of another table
  pub other_table : (m : ℕ) → ((k : ℕ) → m ≤ k → taken k ≡ None) → runs_from 0 (places taken n) ≡ runs_from 0 (places taken m)
  other_table m none = runs_same (places taken n) (places taken m) 0 (λ k. places_all taken n past k ∙ sym (places_all taken m none k))

-- the runs of some slots are those of their blocks
pub slots_runs : (fills : List Fill) (flags octets : List ℕ) (taken : ℕ → Option ℕ) (block count : ℕ)
    → AreSlots block count taken fills flags octets
    → runs_from (4096 * block) (places (cell fills flags octets) (length flags)) ≡ runs_from (4096 * block) (cells_of taken block count)
slots_runs fills flags octets taken block count are =
    let n : length flags ≡ 4096 * count = are.whole.flags_size ∙ ap (λ (m : ℕ). 4096 * m) are.fills_size in
    ap (λ (l : List (Option ℕ)). runs_from (4096 * block) l)
    (ext_get_or None (places (cell fills flags octets) (length flags)) (cells_of taken block count)
    (length-places (cell fills flags octets) (length flags) ∙ n ∙ sym (cells_size taken block count))
    (λ i within.
    let size = length-places (cell fills flags octets) (length flags) in
    let low : i < length flags = omega (arith, within, size) in
    let in_blocks : i < 4096 * count = omega (arith, low, n) in
    places_at (cell fills flags octets) (length flags) i low ∙ sym (are.cells i in_blocks) ∙ cells_at taken block count i in_blocks))
