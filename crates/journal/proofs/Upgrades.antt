-- The opening of the gate of format 3: what the journal keeps after it, and what a crash within it leaves.
use Rattle.std.proofs.Common.{◌≡◌, ◌≢◌, ◌⊎◌, inl, inr, ⊎_elim, ◌≤◌, ℕ, ◌+◌, cond, eqb, get_or, Bool, true, false, IsTrue, List, []}
use Rattle.std.proofs.Common.{◌∷◌, length, map, take, refl, sym, ◌∙◌, ap, subst, arith, Result, Ok, Err}
use Rattle.std.proofs.lemmas.Bool.{true≢false}
use Rattle.disk.specs.Calls.{Syncs, Writes}
use Rattle.disk.specs.Device.{Device, Elapses, IsRefused, IsTornImage, LeavesNoMore, LeavesOnly, LeftNoMore, LeftTornAt, TearsAt, one_more}
use Rattle.disk.specs.declared.DiskError.{DiskError}
use Rattle.disk.specs.declared.DiskError.TheVariants as disk_errors
use Rattle.disk.specs.Image.{Torn, overwritten, part}
use Rattle.disk.proofs.Images.{get_or-part, overwritten_above}
use Rattle.journal_laws.specs.Held.{AreOpen}
use Rattle.journal_laws.proofs.Blocks.{same_but_equal}
use Rattle.journal_laws.proofs.Formats.{gate_opens, overwritten_torn, torn_gates, torn_rises}
use Rattle.journal_laws.proofs.Standing.{format_open, format_unread}
use Rattle.journal_laws.proofs.Whole.{stands_length}
use Rattle.journal_segments.specs.Staged.{Staged, held_as}
use Rattle.journal.specs.Flight.{Flight, flight_in, left_of}
use Rattle.journal.specs.Inside.{IsAdmitted, IsKept, IsTold, Touched, blocks_without}
use Rattle.journal.specs.Journal.{JournalView}
use Rattle.journal.specs.Upgrading.{IsSameButFormat, Upgrades}
use Rattle.journal.specs.declared.JournalError.{JournalError}
use Rattle.journal.specs.declared.JournalError.TheVariants.{Fault, Memory}
use Rattle.journal.specs.declared.Next.{Next}
use Rattle.journal.proofs.Whole.{kept_refused}
use Rattle.model.specs.Volume.{StandsFor, block, epoch_in, epoch_of, format_in, format_number, home_size, laid_over, logical_blocks}
use Rattle.model.specs.Volume.{number_at}
use Rattle.model.specs.Volume.{segment_count}
use Rattle.journal.specs.declared.Next.TheVariants.{Descriptor, Idle}

pub at_rest : (label : List ℕ) (bs after : List (List ℕ)) (c : List ℕ) → IsAdmitted Idle label bs after c → StandsFor c label bs
at_rest label bs after c (inl stands) = stands
at_rest label bs after c (inr commits) = let wrong = commits.0 in absurd (cc)

-- the gate of the format is another octet than the epoch
pub opened_epoch_in : (superblock : List ℕ) → 150 ≤ length superblock → epoch_in (overwritten 149 (3 ∷ []) superblock) ≡ epoch_in superblock
opened_epoch_in superblock fits =
    ap (λ (octet : ℕ). cond (eqb octet 2) 2 1) (overwritten_above 149 (3 ∷ []) superblock fits 150 0 (omega arith))

opened_epoch : (x : List ℕ) → 150 ≤ length x → epoch_of (overwritten 149 (3 ∷ []) x) ≡ epoch_of x
opened_epoch x fits =
    let y = overwritten 149 (3 ∷ []) x in
    let now : get_or (block 0 y) 150 0 ≡ get_or y (0 + 150) 0 = get_or-part 0 4096 y 150 0 (omega arith) in
    let was : get_or (block 0 x) 150 0 ≡ get_or x (0 + 150) 0 = get_or-part 0 4096 x 150 0 (omega arith) in
    ap (λ (octet : ℕ). cond (eqb octet 2) 2 1) (now ∙ overwritten_above 149 (3 ∷ []) x fits 150 0 (omega arith) ∙ sym was)

module _ (old : Device) (blocks : ℕ) (superblock : List ℕ) (room : List Staged) (filled : ℕ) (is_last : Bool)
    (kept : IsKept old blocks superblock Idle false room filled is_last) (older : format_in superblock ≤ 2) where
  abbrev f : Flight
  f = flight_in room filled is_last

  abbrev x : List ℕ
  x = old.content

  abbrev label : List ℕ
  label = part 20 128 superblock

  -- an image that the write may leave
  pub still_stands : IsTrue old.tells → (c : List ℕ) → IsTornImage 149 1 old c → StandsFor c label (logical_blocks x)
  still_stands t c from =
      format_unread from.0 c label (logical_blocks x)
      (at_rest label (logical_blocks x) (laid_over (logical_blocks x) f.batch.numbers f.batch.images) from.0
      ((kept.told t).admits from.0 from.1)) (torn_gates from.0 c from.2)

  -- it has no lower format, whatever it has at the gate: apart from that it has the superblock of the content
  no_lower : IsTrue old.tells → (c : List ℕ) → IsTornImage 149 1 old c → format_in superblock ≤ format_number c
  no_lower t c from =
      let same : block 0 from.0 ≡ block 0 x = ((kept.told t).same refl from.0 from.1).same 0 (λ none. none) in
      let was : format_number from.0 ≡ format_in superblock = ap format_in same ∙ kept.format_is t refl in
      let rises = torn_rises from.0 c from.2 (omega (arith, was, older)) in
      omega (arith, was, rises)

  pub still_admitted : IsTrue old.tells → (c : List ℕ) → IsTornImage 149 1 old c
      → IsAdmitted Idle label (logical_blocks x) (laid_over (logical_blocks x) f.batch.numbers f.batch.images) c
      × (format_in superblock ≤ format_number c)
  still_admitted t c from = (inl (still_stands t c from), no_lower t c from)

  same_home : (t : IsTrue old.tells) (c : List ℕ) → StandsFor c label (logical_blocks x) → home_size c ≡ home_size x
  same_home t c stands = sym (stands_length c label (logical_blocks x) stands)
      ∙ stands_length x label (logical_blocks x) (kept.told t).stands

  same_count : (t : IsTrue old.tells) (c : List ℕ) → StandsFor c label (logical_blocks x) → length c ≡ length x
      → segment_count c ≡ segment_count x
  same_count t c stands size = omega (
    arith,
    stands.has_superblock.exactly,
    (kept.told t).stands.has_superblock.exactly,
    size,
    same_home t c stands,
  )

  torn_size : (t : IsTrue old.tells) (c : List ℕ) → IsTornImage 149 1 old c → length c ≡ length x
  torn_size t c from = from.2.size ∙ ((kept.told t).same refl from.0 from.1).size

  -- where the write failed, or the sync after it
  module _ (new : Device) (time : Elapses old new) (law : IsTrue new.tells → new.may_leave new.content) (torn : IsTrue old.tells
      → (c : List ℕ) → new.may_leave c → IsTornImage 149 1 old c) where
    before : IsTrue new.tells → IsTrue old.tells
    before t = subst (λ (b : Bool). IsTrue b) time.tells t

    pub cut_blocks : IsTrue new.tells → logical_blocks new.content ≡ logical_blocks x
    cut_blocks t = (still_stands (before t) new.content (torn (before t) new.content (law t))).has_blocks

    pub cut_kept : IsKept new blocks superblock Idle true room filled is_last
    cut_kept = record {
      size = time.size ∙ kept.size;
      low = kept.low;
      high = kept.high;
      superblock_size = kept.superblock_size;
      few = kept.few;
      there = kept.there;
      place = kept.place;
      places = kept.places;
      left = kept.left;
      within = kept.within;
      staged = kept.staged;
      order = kept.order;
      described = λ e. absurd (let both : Idle ≡ Descriptor = e in cc);
      told = λ t.
          let was = kept.told (before t) in
          let its = torn (before t) new.content (law t) in
          let stands = still_stands (before t) new.content its in
          let same = cut_blocks t in
          record {
            stands = subst (λ (bs : List (List ℕ)). StandsFor new.content label bs) (sym same) stands;
            size = same_home (before t) new.content stands ∙ was.size;
            count = same_count (before t) new.content stands (torn_size (before t) new.content its) ∙ was.count;
            admits = λ c left. inl (subst (λ (bs : List (List ℕ)). StandsFor c label bs) (sym same)
                (still_stands (before t) c (torn (before t) c left)));
            holds = λ runs. absurd (true≢false runs);
            same = λ runs. absurd (true≢false runs);
          };
      format_is = λ t runs. absurd (true≢false runs);
      epoch_is = λ t runs. absurd (true≢false runs);
      formats = λ t c left. let was = before t in no_lower was c (torn was c left);
    }

  -- where both were good
  module _ (new : Device) (time : Elapses old new) (after : List ℕ) (content : IsTrue old.tells → new.content ≡ overwritten 149 (3 ∷ []) x)
      (only : IsTrue old.tells → LeavesOnly new (overwritten 149 (3 ∷ []) x))
      (after_size : length after ≡ 4096) (after_label : part 20 128 after ≡ label) (after_format : format_in after ≡ 3)
      (after_epoch : epoch_in after ≡ epoch_in superblock) where
    before_both : IsTrue new.tells → IsTrue old.tells
    before_both t = subst (λ (b : Bool). IsTrue b) time.tells t

    abbrev y : List ℕ
    y = overwritten 149 (3 ∷ []) x

    fits : IsTrue old.tells → 150 ≤ length x
    fits t = omega (arith, (kept.told t).stands.has_superblock.exactly)

    tears : IsTrue old.tells → Torn 149 1 x y
    tears t = overwritten_torn 149 3 x (fits t) (omega arith)

    stands_now : (t : IsTrue old.tells) → StandsFor y label (logical_blocks x)
    stands_now t = format_unread x y label (logical_blocks x) (kept.told t).stands (torn_gates x y (tears t))

    pub opened_blocks : IsTrue old.tells → logical_blocks new.content ≡ logical_blocks x
    opened_blocks t = ap logical_blocks (content t) ∙ (stands_now t).has_blocks

    pub opened_kept : IsKept new blocks after Idle false room filled is_last
    opened_kept = record {
      size = time.size ∙ kept.size;
      low = kept.low;
      high = kept.high;
      superblock_size = after_size;
      few = kept.few;
      there = kept.there;
      place = kept.place;
      places = kept.places;
      left = kept.left;
      within = kept.within;
      staged = kept.staged;
      order = kept.order;
      described = λ e. absurd (let both : Idle ≡ Descriptor = e in cc);
      told = λ now_tells.
          let t = before_both now_tells in
          let was = kept.told t in
          let bs = (stands_now t).has_blocks in
          let told : IsTold new blocks label Idle false f = record {
            stands = subst (λ (z : List ℕ). StandsFor z label (logical_blocks z)) (sym (content t))
                (subst (λ (l : List (List ℕ)). StandsFor y label l) (sym bs) (stands_now t));
            size = ap home_size (content t) ∙ same_home t y (stands_now t) ∙ was.size;
            count = ap segment_count (content t) ∙ same_count t y (stands_now t) (tears t).size ∙ was.count;
            admits = λ c left. inl (subst (λ (z : List ℕ). StandsFor z label (logical_blocks new.content)) (sym (only t c left))
                (subst (λ (l : List (List ℕ)). StandsFor y label l) (sym (opened_blocks t)) (stands_now t)));
            holds = λ runs. subst (λ (z : List ℕ). AreOpen (left_of f) z) (sym (content t))
                (format_open x y label (logical_blocks x) was.stands (torn_gates x y (tears t)) (left_of f) (was.holds refl));
            same = λ runs c left. same_but_equal (Touched f Idle) new.content c (only t c left ∙ sym (content t));
          } in
          subst (λ (l : List ℕ). IsTold new blocks l Idle false f) (sym after_label) told;
      format_is = λ now_tells runs. let t = before_both now_tells in ap format_number (content t) ∙ gate_opens x (fits t)
          ∙ sym after_format;
      epoch_is = λ now_tells runs. let t = before_both now_tells in
          ap epoch_of (content t) ∙ opened_epoch x (fits t)
          ∙ kept.epoch_is t refl ∙ sym after_epoch;
      formats = λ now_tells c left. let t = before_both now_tells in
          omega (arith, ap format_number (only t c left), gate_opens x (fits t), after_format);
    }

-- ---- as those who use the journal see it

module _ {D : Type 0} (device : D → Device) (before later : D) (blocks : ℕ) (superblock : List ℕ) (room : List Staged) (filled : ℕ)
    (is_last : Bool) where
  abbrev its : Flight
  its = flight_in room filled is_last

  abbrev view : D → List ℕ → Next → Bool → JournalView D
  view d super next halted = record {
    disk = d;
    label = part 20 128 super;
    format = format_in super;
    epoch = epoch_in super;
    size = blocks;
    segments = length room;
    blocks = blocks_without its.batch.place next (device d).content;
    next = next;
    halted = halted;
    held = map held_as (take filled room);
    place = its.batch.place;
    number = number_at 0 8 its.batch.descriptor;
    last = number_at 8 8 its.batch.descriptor;
    numbers = its.batch.numbers;
    images = its.batch.images;
    is_last = is_last;
  }

  same_but : (super after : List ℕ) (next : Next) (h k : Bool) → part 20 128 after ≡ part 20 128 super
      → IsSameButFormat (view before super next h) (view later after next k)
  same_but super after next h k label = record {
    label = label;
    size = refl;
    segments = refl;
    next = refl;
    held = refl;
    place = refl;
    number = refl;
    last = refl;
    numbers = refl;
    images = refl;
    is_last = refl;
  }

  abbrev Kept : Next → Bool → Type 0
  Kept next h = IsKept (device before) blocks superblock next h room filled is_last

  abbrev WritesGate : Bool → Result (Unit {0}) DiskError → D → D → Type 0
  WritesGate grows result d e = Writes grows 149 (3 ∷ []) result (device d) (device e)

  abbrev SyncsGate : Bool → Result (Unit {0}) DiskError → D → D → Type 0
  SyncsGate grows result d e = Syncs grows result (device d) (device e)

  -- the torn images of the write, also after a sync that failed
  torn_after : (mid : D) → (IsTrue (device before).tells → IsTrue (device mid).tells) → TearsAt 149 1 (device before) (device mid)
      → LeavesNoMore (device mid) (device later) → TearsAt 149 1 (device before) (device later)
  torn_after mid mid_tells tears no_more t c left = tears t c (no_more (mid_tells t) c left)

  since_after : (mid : D) → (IsTrue (device before).tells → IsTrue (device mid).tells) → (device before).clock ≤ (device mid).clock
      → LeftTornAt 149 1 (device before) (device mid) → LeftNoMore (device mid) (device later)
      → LeftTornAt 149 1 (device before) (device later)
  since_after mid mid_tells clock tears no_more t time c low left =
      tears t time c low (no_more (mid_tells t) time c (omega (arith, clock, low)) left)

  module _ (law : IsTrue (device later).tells → (device later).may_leave (device later).content) (older : format_in superblock ≤ 2) where
    -- both calls were good
    idle_ok : {write_grows sync_grows : Bool} (mid : D) (after : List ℕ) → length after ≡ 4096
        → part 20 128 after ≡ part 20 128 superblock → format_in after ≡ 3 → epoch_in after ≡ epoch_in superblock
        → (x y : Unit {0}) → Kept Idle false → WritesGate write_grows (Ok x) before mid → SyncsGate sync_grows (Ok y) mid later
        → IsKept (device later) blocks after Idle false room filled is_last × Upgrades device (view before superblock Idle false)
        (view later after Idle false) (Ok tt)
    idle_ok mid after size label format epoch x y kept wrote synced =
        let mid_tells : IsTrue (device before).tells → IsTrue (device mid).tells =
        λ t. subst (λ (b : Bool). IsTrue b) (sym wrote.time.tells) t in
        let time : Elapses (device before) (device later) =
        record {
          size = synced.time.size ∙ wrote.time.size;
          tells = synced.time.tells ∙ wrote.time.tells;
          later = omega (arith, wrote.time.later, synced.time.later);
        } in
        let content : IsTrue (device before).tells → (device later).content ≡ overwritten 149 (3 ∷ []) (device before).content =
        λ t. synced.content (mid_tells t) ∙ wrote.content t in
        let only : IsTrue (device before).tells → LeavesOnly (device later) (overwritten 149 (3 ∷ []) (device before).content) =
        λ t c left. synced.durable (mid_tells t) c left ∙ wrote.content t in
        let now = opened_kept (device before) blocks superblock room filled is_last kept older
        (device later) time after content only size label format epoch in (
          now,
          record {
            same = same_but superblock after Idle false false label;
            epoch = epoch;
            blocks = opened_blocks (device before) blocks superblock room filled is_last kept older
                (device later) time after content only size label format epoch;
            format = format;
            running = refl;
            synced = λ t c left. only t c left ∙ sym (content t);
            writes = synced.call.writes ∙ wrote.call.writes;
            syncs = synced.call.syncs ∙ ap one_more wrote.call.syncs;
            time = time;
            failures = record { ok = synced.cause.ok ∙ wrote.cause.ok; fault = tt };
            no_other = tt;
            halts = tt;
            memory = tt;
            now = λ t c left. ((now.told t).admits c left, now.formats t c left);
            since = λ t time' c low left.
                ⊎_elim (λ earlier. inl earlier)
                (λ from. inr (still_admitted (device before) blocks superblock room filled is_last kept older t c from))
                (since_after mid mid_tells wrote.time.later wrote.since synced.since t time' c low left);
          },
        )

    -- the write failed, or the sync after it: the images are torn ones
    cut_off : (e : JournalError) → Elapses (device before) (device later) → Kept Idle false
        → TearsAt 149 1 (device before) (device later) → LeftTornAt 149 1 (device before) (device later)
        → (e ≡ Fault) ⊎ (e ≡ Memory) → (e ≡ Fault → (device later).failures ≢ (device before).failures)
        → (e ≡ Memory → (device later).failures ≡ (device before).failures)
        → IsKept (device later) blocks superblock Idle true room filled is_last × Upgrades device (view before superblock Idle false)
        (view later superblock Idle true) (Err e)
    cut_off e time kept torn since which fault memory =
        let now = cut_kept (device before) blocks superblock room filled is_last kept older (device later) time law torn in
        let later_tells : IsTrue (device before).tells → IsTrue (device later).tells =
        λ t. subst (λ (b : Bool). IsTrue b) (sym time.tells) t in (
          now,
          record {
            same = same_but superblock superblock Idle false true refl;
            epoch = refl;
            blocks = λ t. cut_blocks (device before) blocks superblock room filled is_last kept older (device later) time law torn
                (later_tells t);
            format = tt;
            running = tt;
            synced = λ t. tt;
            writes = tt;
            syncs = tt;
            time = time;
            failures = record { ok = tt; fault = fault };
            no_other = which;
            halts = λ is. refl;
            memory = memory;
            now = λ t c left. ((now.told t).admits c left, now.formats t c left);
            since = λ t time' c low left. ⊎_elim (λ earlier. inl earlier)
                (λ from. inr (still_admitted (device before) blocks superblock room filled is_last kept older t c from))
                (since t time' c low left);
          },
        )

    idle_unwritten : {write_grows : Bool} (e : DiskError) → e ≡ disk_errors.Fault → Kept Idle false
        → WritesGate write_grows (Err e) before later
        → IsKept (device later) blocks superblock Idle true room filled is_last × Upgrades device (view before superblock Idle false)
        (view later superblock Idle true) (Err Fault)
    idle_unwritten e is kept wrote =
        cut_off Fault wrote.time kept wrote.crash wrote.since (inl refl) (λ f. wrote.cause.fault is)
        (λ m. absurd (let both : Fault ≡ Memory = m in cc))

    idle_unsynced : {write_grows sync_grows : Bool} (mid : D) (x : Unit {0}) (e : DiskError) → e ≡ disk_errors.Fault → Kept Idle false
        → WritesGate write_grows (Ok x) before mid
        → SyncsGate sync_grows (Err e) mid later
        → IsKept (device later) blocks superblock Idle true room filled is_last × Upgrades device (view before superblock Idle false)
        (view later superblock Idle true) (Err Fault)
    idle_unsynced mid x e is kept wrote failed =
        let mid_tells : IsTrue (device before).tells → IsTrue (device mid).tells =
        λ t. subst (λ (b : Bool). IsTrue b) (sym wrote.time.tells) t in
        cut_off Fault (record {
          size = failed.time.size ∙ wrote.time.size;
          tells = failed.time.tells ∙ wrote.time.tells;
          later = omega (arith, wrote.time.later, failed.time.later);
        }) kept
        (torn_after mid mid_tells wrote.crash failed.crash)
        (since_after mid mid_tells wrote.time.later wrote.since failed.since)
        (inl refl) (λ f same. failed.cause.fault is (same ∙ sym wrote.cause.ok)) (λ m. absurd (let both : Fault ≡ Memory = m in cc))

    idle_unsynced_for_memory : {write_grows sync_grows : Bool} (mid : D) (x : Unit {0}) (e : DiskError) → e ≡ disk_errors.Memory
        → Kept Idle false
        → WritesGate write_grows (Ok x) before mid → SyncsGate sync_grows (Err e) mid later
        → IsKept (device later) blocks superblock Idle true room filled is_last × Upgrades device (view before superblock Idle false)
        (view later superblock Idle true) (Err Memory)
    idle_unsynced_for_memory mid x e is kept wrote failed =
        let mid_tells : IsTrue (device before).tells → IsTrue (device mid).tells =
        λ t. subst (λ (b : Bool). IsTrue b) (sym wrote.time.tells) t in
        let refused = failed.refused is in
        cut_off Memory (record {
          size = failed.time.size ∙ wrote.time.size;
          tells = failed.time.tells ∙ wrote.time.tells;
          later = omega (arith, wrote.time.later, failed.time.later);
        }) kept
        (torn_after mid mid_tells wrote.crash refused.crash)
        (since_after mid mid_tells wrote.time.later wrote.since refused.since)
        (inr refl) (λ f. absurd (let both : Memory ≡ Fault = f in cc)) (λ m. refused.failures ∙ wrote.cause.ok)

    -- the write was refused for want of memory: nothing changed
    idle_refused : Kept Idle false → IsRefused (device before) (device later)
        → IsKept (device later) blocks superblock Idle false room filled is_last × Upgrades device (view before superblock Idle false)
        (view later superblock Idle false) (Err Memory)
    idle_refused kept refused =
        let now = kept_refused (device before) blocks superblock Idle false room filled is_last kept (device later) refused in (
          now,
          record {
            same = same_but superblock superblock Idle false false refl;
            epoch = refl;
            blocks = λ t. ap logical_blocks (refused.content t);
            format = tt;
            running = tt;
            synced = λ t. tt;
            writes = tt;
            syncs = tt;
            time = refused.time;
            failures = record { ok = tt; fault = λ f. absurd (let both : Memory ≡ Fault = f in cc) };
            no_other = inr refl;
            halts = λ f. absurd (let both : Memory ≡ Fault = f in cc);
            memory = λ m. refused.failures;
            now = λ t c left. ((now.told t).admits c left, now.formats t c left);
            since = λ t time' c low left. inl (refused.since t time' c low left);
          },
        )

    -- whatever comes next is none
    module _ (next : Next) (h : Bool) (is : next ≡ Idle) (running : h ≡ false) (kept : Kept next h) where
      at_idle : (P : Next → Bool → Type 0) → (Kept Idle false → P Idle false) → P next h
      at_idle P p =
          let now : Kept Idle false = subst (λ (b : Bool). Kept Idle b) running (subst (λ (n : Next). Kept n h) is kept) in
          subst (λ (n : Next). P n h) (sym is) (subst (λ (b : Bool). P Idle b) (sym running) (p now))

      pub when_ok : {write_grows sync_grows : Bool} (mid : D) (after : List ℕ) → length after ≡ 4096
          → part 20 128 after ≡ part 20 128 superblock → format_in after ≡ 3 → epoch_in after ≡ epoch_in superblock
          → (x y : Unit {0}) → WritesGate write_grows (Ok x) before mid → SyncsGate sync_grows (Ok y) mid later
          → IsKept (device later) blocks after next h room filled is_last
          × Upgrades device (view before superblock next h) (view later after next h) (Ok tt)
      when_ok mid after size label format epoch x y wrote synced =
          at_idle (λ (n : Next) (b : Bool). IsKept (device later) blocks after n b room filled is_last
          × Upgrades device (view before superblock n b) (view later after n b) (Ok tt))
          (λ now. idle_ok mid after size label format epoch x y now wrote synced)

      abbrev Cut : JournalError → Next → Bool → Type 0
      Cut e n b = IsKept (device later) blocks superblock n true room filled is_last
          × Upgrades device (view before superblock n b) (view later superblock n true) (Err e)

      pub when_unwritten : {write_grows : Bool} (e : DiskError) → e ≡ disk_errors.Fault → WritesGate write_grows (Err e) before later
          → Cut Fault next h
      when_unwritten e fails wrote = at_idle (Cut Fault) (λ now. idle_unwritten e fails now wrote)

      pub when_unsynced : {write_grows sync_grows : Bool} (mid : D) (x : Unit {0}) (e : DiskError) → e ≡ disk_errors.Fault
          → WritesGate write_grows (Ok x) before mid
          → SyncsGate sync_grows (Err e) mid later → Cut Fault next h
      when_unsynced mid x e fails wrote failed = at_idle (Cut Fault) (λ now. idle_unsynced mid x e fails now wrote failed)

      pub when_unsynced_for_memory : {write_grows sync_grows : Bool} (mid : D) (x : Unit {0}) (e : DiskError) → e ≡ disk_errors.Memory
          → WritesGate write_grows (Ok x) before mid
          → SyncsGate sync_grows (Err e) mid later → Cut Memory next h
      when_unsynced_for_memory mid x e fails wrote failed =
          at_idle (Cut Memory) (λ now. idle_unsynced_for_memory mid x e fails now wrote failed)

      pub when_refused : IsRefused (device before) (device later)
          → IsKept (device later) blocks superblock next h room filled is_last
          × Upgrades device (view before superblock next h) (view later superblock next h) (Err Memory)
      when_refused refused =
          at_idle (λ (n : Next) (b : Bool). IsKept (device later) blocks superblock n b room filled is_last
          × Upgrades device (view before superblock n b) (view later superblock n b) (Err Memory))
          (λ now. idle_refused now refused)
