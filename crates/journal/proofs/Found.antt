-- What an opening finds.
use Rattle.std.proofs.Common.{◌≡◌, ◌≢◌, ◌⊎◌, inl, inr, ⊎_elim, ◌<◌, ◌≤◌, ℕ, ◌+◌, ◌*◌, ◌%◌, ◌^◌, [], ◌∷◌, suc, Bool, true, false, IsTrue}
use Rattle.std.proofs.Common.{List, length, get_or, map, take, cond, refl, sym, ◌∙◌, ap, subst, arith, Result, Ok, Err, IfOk, IfErr}
use Rattle.std.proofs.Common.{MatchResult}
use Rattle.std.specs.List.{filter, range_with_len, sum}
use Rattle.std.proofs.lemmas.List.{get_or-take, length-map, length-take-le, map_more}
use Rattle.std.proofs.lemmas.List.FromFn.{length-range_with_len}
use Rattle.std.proofs.lemmas.List.Sums.{sum_by-cons}
use Rattle.std.proofs.Math.Nat.{mod-add-mod}
use Rattle.disk.specs.Device.{Device, Elapses, LeavesOnly}
use Rattle.disk.specs.Image.{part}
use Rattle.journal_laws.specs.Held.{AreOpen, AreRising, HeldBatch, IsAmong, held_at as held_in_places, held_in, sorted_held}
use Rattle.journal_laws.specs.Images.{IsOpenIn}
use Rattle.journal_laws.proofs.Judging.{length-sorted, stands_rising, writes_of, writes_sorted}
use Rattle.journal_laws.proofs.Sorting.{all_found, found_open}
use Rattle.journal_segments.specs.Staged.{IsStaged, Staged, held_as, none_staged, staged_at}
use Rattle.journal.specs.Flight.{Flight, all_of, are_all, counts_of, flight_in, sizes_of}
use Rattle.journal.specs.Order.{closings}
use Rattle.journal_segments.specs.Found.{IsQuiet, IsStill}
use Rattle.journal.specs.Inside.{IsFound, IsKept, IsSynced, IsVolume, LeftAs, Touched}
use Rattle.journal_segments.specs.Found.{IsNoVolume}
use Rattle.journal.specs.Opening.{AreSameVolume, Costs, IsMore, LeavesVolume, LeftKept, Opens, Refuses, SyncsFirst, closing_writes}
use Rattle.journal.specs.Opening.{home_syncs, home_writes, images_in}
use Rattle.journal.specs.Journal.{AreWhole, HasWholeBlocks, IsCaused, IsDuring, IsReady, JournalView, LeavesAdmitted, all_held as held_with}
use Rattle.journal.specs.Journal.{still_open}
use Rattle.journal.specs.declared.JournalError.{JournalError}
use Rattle.journal.specs.declared.JournalError.TheVariants.{Fault, Memory, NotAVolume, Halted}
use Rattle.model.specs.Volume.{batch_in, block, descriptor_place, epoch_in, format_in, format_number, home_place, home_size, label_of}
use Rattle.model.specs.Volume.{number_at}
use Rattle.model.specs.Volume.{is_open, open_segments, segment_count, IsSuperblock, IsDescriptor, StandsFor, logical_blocks}
use Rattle.journal.specs.declared.Next.TheVariants.{Idle, Home}
use Rattle.journal_laws.proofs.Blocks.{same_but_equal}
use Rattle.journal.proofs.Transitions.{told_after}
use Rattle.journal.proofs.Flights.{closings_by, length-all, sizes_some}
use Rattle.journal.proofs.Contents.{holds_first}
use Rattle.std.proofs.lemmas.Bool.{true≢false}

-- why a run of calls stopped
fault_caused : (error : JournalError) (old new : Device) → IsCaused error old new → error ≡ Fault → new.failures ≢ old.failures
fault_caused error old new (inl caused) e = caused.1
fault_caused error old new (inr caused) e = absurd (let two : Memory ≡ Fault = sym caused.0 ∙ e in cc)

memory_caused : (error : JournalError) (old new : Device) → IsCaused error old new → error ≡ Memory → new.failures ≡ old.failures
memory_caused error old new (inl caused) e = absurd (let two : Fault ≡ Memory = sym caused.0 ∙ e in cc)
memory_caused error old new (inr caused) e = caused.1

not_caused : (error : JournalError) (old new : Device) → IsCaused error old new → (error ≢ NotAVolume) × (error ≢ Halted)
not_caused error old new (inl caused) =
    (λ e. (let two : Fault ≡ NotAVolume = sym caused.0 ∙ e in cc), λ e. (let two : Fault ≡ Halted = sym caused.0 ∙ e in cc))
not_caused error old new (inr caused) =
    (λ e. (let two : Memory ≡ NotAVolume = sym caused.0 ∙ e in cc), λ e. (let two : Memory ≡ Halted = sym caused.0 ∙ e in cc))

pub caused_elsewhere : (error : JournalError) (old new : Device) → IsCaused error old new → error ≢ NotAVolume
caused_elsewhere error old new caused = (not_caused error old new caused).0

-- what each of some is, and a place among theirs
among_staged : (P : ℕ → Type 0) (s : ℕ) (ss : List Staged) → ((k : ℕ) → k < length ss → P (staged_at ss k).place)
    → IsAmong s (map held_as ss) → P s
among_staged P s [] each among = absurd among
among_staged P s (o ∷ os) each (inl is) = subst P (sym is) (each 0 (omega arith))
among_staged P s (o ∷ os) each (inr rest) = among_staged P s os (λ k within. each (suc k) (omega (arith, within))) rest

-- the images of some, and what carries them home
images_at : (x ss : List ℕ) → images_in x ss + length ss ≡ writes_of (held_in_places x ss)
images_at x [] = refl
images_at x (s ∷ ss) =
    let d = block (descriptor_place s) x in
    omega (
      arith,
      images_at x ss,
      length-map (range_with_len 0 (number_at 16 4 d)) (λ i. number_at (24 + 4 * i) 4 d),
      length-range_with_len 0 (number_at 16 4 d),
    )

images_counted : (held : List HeldBatch) → writes_of held ≡ sum (counts_of held) + length held
images_counted [] = refl
images_counted (h ∷ held) = omega (arith, images_counted held, sum_by-cons (λ n. n) (length h.batch.numbers) (counts_of held))

some_writes : (x ss : List ℕ) → 0 < length ss → home_writes x ss ≡ images_in x ss + closing_writes (segment_count x) (length ss)
some_writes x [] some = absurd (omega (arith, some))
some_writes x (s ∷ ss) some = refl

some_syncs : (x ss : List ℕ) → 0 < length ss → home_syncs x ss ≡ 1 + closing_writes (segment_count x) (length ss)
some_syncs x [] some = absurd (omega (arith, some))
some_syncs x (s ∷ ss) some = refl

no_places : (ss : List ℕ) → length ss ≡ 0 → ss ≡ []
no_places [] none = refl
no_places (s ∷ ss) none = absurd (omega (arith, none))

module _ (device : Device) (superblock : List ℕ) (blocks : ℕ) (room : List Staged) (image_size : IsTrue device.tells
    → length device.content ≡ device.size) (now : IsTrue device.tells → device.may_leave device.content) where
  abbrev x : List ℕ
  x = device.content

  module _ (n : ℕ) (found : IsFound device superblock blocks room n) where
    abbrev held : List HeldBatch
    held = map held_as (take n room)

    few : length room ≤ 8
    few = elim found.valid.segments [
      | inl one ↦ omega (arith, found.count, one)
      | inr eight ↦ omega (arith, found.count, eight)
    ]

    some : 0 < length room
    some = elim found.valid.segments [
      | inl one ↦ omega (arith, found.count, one)
      | inr eight ↦ omega (arith, found.count, eight)
    ]

    device_size : device.size ≡ 4096 * home_place (length room) blocks
    device_size = omega (arith, found.valid.exactly, found.blocks_are, found.count)

    content_superblock : IsTrue device.tells → IsSuperblock (block 0 x) (length x)
    content_superblock t =
        subst (λ (n : ℕ). IsSuperblock (block 0 x) n) (sym (image_size t))
        (subst (λ (b : List ℕ). IsSuperblock b device.size) (found.superblock_is t) found.valid)

    content_size : IsTrue device.tells → home_size x ≡ blocks
    content_size t = ap (number_at 12 4) (sym (found.superblock_is t)) ∙ found.blocks_are

    content_count : IsTrue device.tells → segment_count x ≡ length room
    content_count t = ap (number_at 16 4) (sym (found.superblock_is t)) ∙ sym found.count

    content_label : IsTrue device.tells → label_of x ≡ part 20 128 superblock
    content_label t = ap (λ (b : List ℕ). part 20 128 b) (sym (found.superblock_is t))

    held_is : IsTrue device.tells → held ≡ held_in x
    held_is t = found.found.are t (length room) (omega arith)
        ∙ ap (λ (k : ℕ). sorted_held (held_in_places x (filter (λ s. is_open s x) (range_with_len 0 k)))) (sym (content_count t))

    within : n ≤ length room
    within = omega (arith, found.found.within)

    valid_all : IsTrue device.tells → (s : ℕ) → IsOpenIn s x → IsDescriptor (home_size x) (block (descriptor_place s) x)
    valid_all t s opened =
        among_staged (λ p. IsDescriptor (home_size x) (block (descriptor_place p) x)) s (take n room) each
        (subst (λ (hs : List HeldBatch). IsAmong s hs) (sym (held_is t)) (all_found x s opened))
      where
        each : (k : ℕ) → k < length (take n room)
            → IsDescriptor (home_size x) (block (descriptor_place (staged_at (take n room) k).place) x)
        each k low =
            let less : k < n = omega (arith, low, length-take-le n room within) in
            let one = found.found.each k less in
            subst (λ (o : Staged). IsDescriptor (home_size x) (block (descriptor_place o.place) x))
            (sym (get_or-take n room k none_staged less))
            (subst (λ (b : ℕ). IsDescriptor b (block (descriptor_place (staged_at room k).place) x)) (sym (content_size t))
            (subst (λ (d : List ℕ). IsDescriptor blocks d) (sym (one.read.written t).descriptor_is) one.read.descriptor))

    pub found_stands : IsTrue device.tells → StandsFor x (part 20 128 superblock) (logical_blocks x)
    found_stands t =
        subst (λ (l : List ℕ). StandsFor x l (logical_blocks x)) (content_label t)
        (stands_rising x (content_superblock t) (valid_all t) (subst (λ (hs : List HeldBatch). AreRising hs) (held_is t) found.found.rise))

    are_held : IsTrue device.tells → AreOpen held x
    are_held t = subst (λ (hs : List HeldBatch). AreOpen hs x) (sym (held_is t))
        (found_open x (part 20 128 superblock) (logical_blocks x) (found_stands t))

    length_open : IsTrue device.tells → length (open_segments x) ≡ n
    length_open t =
        omega (
          arith,
          ap length (held_is t),
          length-sorted (held_in_places x (open_segments x)),
          length-map (open_segments x) (λ s. let h : HeldBatch = record { place = s; batch = batch_in s x } in h),
          length-map (take n room) held_as,
          length-take-le n room within,
        )

    images_open : IsTrue device.tells → images_in x (open_segments x) ≡ sum (counts_of held)
    images_open t = omega (
      arith,
      images_at x (open_segments x) ∙ sym (writes_sorted (held_in_places x (open_segments x))) ∙ ap writes_of (sym (held_is t))
          ∙ images_counted held,
      length_open t,
      length-map (take n room) held_as,
      length-take-le n room within,
    )

  -- with all segments closed
  module _ (found : IsFound device superblock blocks room 0) where
    abbrev f : Flight
    f = flight_in room 0 true

    pub rest_stands : IsTrue device.tells → StandsFor x (part 20 128 superblock) (logical_blocks x)
    rest_stands = found_stands 0 found

    pub rest_none : IsTrue device.tells → open_segments x ≡ []
    rest_none t = no_places (open_segments x) (length_open 0 found t)

    pub rest_format : IsTrue device.tells → format_number x ≡ format_in superblock
    rest_format t = ap format_in (sym (found.superblock_is t))

    pub rest_kept : IsKept device blocks superblock Idle false room 0 true
    rest_kept = record {
      size = device_size 0 found;
      low = omega (arith, found.valid.low, found.blocks_are);
      high = omega (arith, found.valid.high, found.blocks_are);
      superblock_size = found.superblock_size;
      few = few 0 found;
      there = some 0 found;
      place = omega (arith, found.found.first refl, some 0 found);
      places = λ e. absurd (true≢false e);
      left = λ e. absurd (true≢false e);
      within = tt;
      staged = λ e. absurd (true≢false e);
      order = λ e. absurd (true≢false e);
      described = λ e. cc;
      told = λ t. record {
        stands = rest_stands t;
        size = content_size 0 found t;
        count = content_count 0 found t;
        admits = λ c left. inl (subst (λ (y : List ℕ). StandsFor y (part 20 128 superblock) (logical_blocks x))
            (sym (found.synced t c left)) (rest_stands t));
        holds = λ runs. are_held 0 found t;
        same = λ runs c left. same_but_equal (Touched f Idle) x c (found.synced t c left);
      };
      format_is = λ t runs. rest_format t;
      epoch_is = λ t runs. ap epoch_in (sym (found.superblock_is t));
      formats = λ t c left. omega (arith, ap format_number (found.synced t c left), rest_format t);
    }

  -- with some open
  module _ (n filled : ℕ) (is : n ≡ filled + 1) (found : IsFound device superblock blocks room n) where
    abbrev flight : Flight
    flight = flight_in room filled true

    there : filled < length room
    there = omega (arith, is, found.found.within)

    all_are : map held_as (take n room) ≡ all_of flight
    all_are = ap (λ (k : ℕ). map held_as (take k room)) is ∙ map_more held_as room filled none_staged there

    staged : (t : ℕ) → t ≤ filled → IsStaged blocks (staged_at room t)
    staged t low = (found.found.each t (omega (arith, is, low))).read.staged

    length_flight : length (all_of flight) ≡ n
    length_flight = omega (arith, length-all room filled true there, is)

    length_sizes : length (sizes_of flight).counts ≡ n
    length_sizes = omega (arith, length-map (all_of flight) (λ h. length h.batch.numbers), length_flight)

    pub replay_some : (0 < length (sizes_of flight).counts) × (0 < get_or (sizes_of flight).counts 0 0)
    replay_some =
        let first : 0 < length (sizes_of flight).counts = omega (arith, length_sizes, is) in
        (first, sizes_some room filled true there blocks staged 0 first)

    -- they are closed as the opening says
    closed_by : IsTrue device.tells → closing_writes (segment_count x) (length (open_segments x)) ≡ closings (sizes_of flight)
    closed_by t =
        let many : length (open_segments x) ≡ length (all_of flight) = length_open n found t ∙ sym length_flight in
        let as_one : closing_writes (segment_count x) (length (open_segments x)) ≡ cond (are_all flight) 1 (length (all_of flight)) =
        ap (λ (k : ℕ). closing_writes k (length (open_segments x))) (content_count n found t)
        ∙ ap (λ (k : ℕ). closing_writes (length room) k) many in
        closings_by (λ k. closing_writes (segment_count x) (length (open_segments x)) ≡ k) (sizes_of flight) replay_some.0
        (λ all. as_one ∙ ap (λ (b : Bool). cond b 1 (length (all_of flight))) all)
        (λ each. as_one ∙ ap (λ (b : Bool). cond b 1 (length (all_of flight))) each
        ∙ sym (length-map (all_of flight) (λ h. length h.batch.numbers)))

    open_some : IsTrue device.tells → 0 < length (open_segments x)
    open_some t = omega (arith, length_open n found t, is)

    pub replay_writes : IsTrue device.tells
        → home_writes x (open_segments x) ≡ sum (sizes_of flight).counts + closings (sizes_of flight)
    replay_writes t =
        let images : images_in x (open_segments x) ≡ sum (sizes_of flight).counts =
        images_open n found t ∙ ap (λ (hs : List HeldBatch). sum (counts_of hs)) all_are in
        omega (arith, some_writes x (open_segments x) (open_some t), images, closed_by t)

    pub replay_syncs : IsTrue device.tells → home_syncs x (open_segments x) ≡ 1 + closings (sizes_of flight)
    replay_syncs t = omega (arith, some_syncs x (open_segments x) (open_some t), closed_by t)

    pub replay_stands : IsTrue device.tells → StandsFor x (part 20 128 superblock) (logical_blocks x)
    replay_stands = found_stands n found

    all_held : IsTrue device.tells → AreOpen (all_of flight) x
    all_held t = subst (λ (hs : List HeldBatch). AreOpen hs x) all_are (are_held n found t)

    place_there : (staged_at room filled).place < length room
    place_there = (found.found.each filled (omega (arith, is))).below

    pub replay_format : IsTrue device.tells → format_number x ≡ format_in superblock
    replay_format t = ap format_in (sym (found.superblock_is t))

    pub replay_kept : IsKept device blocks superblock (Home 0 0) false room filled true
    replay_kept = record {
      size = device_size n found;
      low = omega (arith, found.valid.low, found.blocks_are);
      high = omega (arith, found.valid.high, found.blocks_are);
      superblock_size = found.superblock_size;
      few = few n found;
      there = there;
      place = place_there;
      places = λ live t low. (found.found.each t (omega (arith, is, low))).below;
      left = λ e. absurd (true≢false e);
      within = replay_some;
      staged = λ live. staged;
      order = λ e. absurd e;
      described = λ e. cc;
      told = λ t.
          told_after flight x (part 20 128 superblock) (replay_stands t)
          (subst (λ (k : ℕ). (staged_at room filled).place < k) (sym (content_count n found t)) place_there) (content_count n found t)
          (subst (λ (b : ℕ). IsStaged b (staged_at room filled)) (sym (content_size n found t)) (staged filled (omega arith)))
          device blocks (Home 0 0) false (content_size n found t) (all_held t)
          (λ c left. same_but_equal (Touched flight (Home 0 0)) x c (found.synced t c left)) (now t)
          (λ runs. holds_first flight x (part 20 128 superblock) (replay_stands t) (content_count n found t) (all_held t));
      format_is = λ t runs. replay_format t;
      epoch_is = λ t runs. ap epoch_in (sym (found.superblock_is t));
      formats = λ t c left. omega (arith, ap format_number (found.synced t c left), replay_format t);
    }

-- a journal that was found, and a run of calls from it, after calls that changed nothing
module _ {D : Type 0} (device : D → Device) (first : D) (journal : JournalView D) (quiet : IsQuiet (device first) (device journal.disk))
    (still : IsStill (device first) (device journal.disk)) (stands : IsTrue (device journal.disk).tells
    → StandsFor (device journal.disk).content journal.label journal.blocks) (whole : HasWholeBlocks device journal)
    (format : IsTrue (device journal.disk).tells → format_number (device journal.disk).content ≡ journal.format) where
  here : IsTrue (device first).tells → IsTrue (device journal.disk).tells
  here t = subst (λ (b : Bool). IsTrue b) (sym quiet.tells) t

  read : IsTrue (device first).tells → StandsFor (device first).content journal.label journal.blocks
  read t = subst (λ (x : List ℕ). StandsFor x journal.label journal.blocks) (still.content t) (stands (here t))

  its_format : IsTrue (device first).tells → format_number (device first).content ≡ journal.format
  its_format t = ap format_number (sym (still.content t)) ∙ format (here t)

  pub opens_found : IsReady journal → still_open journal ≡ [] → LeavesAdmitted device journal → Opens device first journal
  opens_found ready rest now = record {
    ready = ready;
    rest = rest;
    stands = read;
    format = its_format;
    whole = whole;
    now = now;
    since = λ t time c before left. inl (quiet.since t time c before left);
    time = record { size = quiet.size; tells = quiet.tells; later = quiet.later };
    failures = still.failures;
  }

  kept_then : (last : Device) → LeftAs (device journal.disk) last journal.format journal.label journal.blocks → LeftKept (device first) last
  kept_then last left t time c before now =
      ⊎_elim (λ earlier. inl (quiet.since t time c before earlier))
      (λ (s : IsVolume journal.format journal.label journal.blocks c). inr (
        journal.label,
        (journal.blocks, (read t, (s.0, omega (arith, s.1, its_format t)))),
      ))
      (left (here t) time c (omega (arith, before, quiet.later)) now)

  pub opens_replayed : journal.is_last ≡ true → (after : JournalView D) → IsReady after → IsDuring device journal after
      → (device after.disk).failures ≡ (device journal.disk).failures → Opens device first after
  opens_replayed all after ready during failures = record {
    ready = ready;
    rest = ap (λ (b : Bool). cond b [] (held_with after)) (during.same.is_last ∙ all);
    stands = λ t.
        subst (λ (l : List ℕ). StandsFor (device first).content l after.blocks) (sym during.same.label)
        (subst (λ (bs : List (List ℕ)). StandsFor (device first).content journal.label bs) (sym (during.blocks (here t))) (read t));
    format = λ t. its_format t ∙ sym during.same.format;
    whole = λ t.
        let t' = subst (λ (b : Bool). IsTrue b) during.tells t in
        subst (λ (n : ℕ). AreWhole n after.blocks) (sym during.same.size)
        (subst (λ (bs : List (List ℕ)). AreWhole journal.size bs) (sym (during.blocks t')) (whole t'));
    now = λ t c left.
        let t' = subst (λ (b : Bool). IsTrue b) during.tells t in
        let stood = during.now t' c left in (
          inl
              (subst (λ (l : List ℕ). StandsFor c l after.blocks) (sym during.same.label)
              (subst (λ (bs : List (List ℕ)). StandsFor c journal.label bs) (sym (during.blocks t')) stood.0)),
          omega (arith, stood.1, during.same.format),
        );
    since = kept_then (device after.disk) during.since;
    time = record { size = during.size ∙ quiet.size; tells = during.tells ∙ quiet.tells; later = omega (arith, quiet.later, during.later) };
    failures = failures ∙ still.failures;
  }

  pub refuses_replayed : (last : D) (error : JournalError) → IsCaused error (device journal.disk) (device last)
      → Elapses (device journal.disk) (device last) → LeftAs (device journal.disk) (device last) journal.format journal.label journal.blocks
      → (IsTrue (device journal.disk).tells → IsVolume journal.format journal.label journal.blocks (device last).content)
      → Refuses device first last error
  refuses_replayed last error caused time left holds = record {
    since = kept_then (device last) left;
    time = record { size = time.size ∙ quiet.size; tells = time.tells ∙ quiet.tells; later = omega (arith, quiet.later, time.later) };
    fault = λ e same. fault_caused error (device journal.disk) (device last) caused e (same ∙ sym still.failures);
    no_volume = λ e. absurd ((not_caused error (device journal.disk) (device last) caused).0 e);
    memory = λ e. memory_caused error (device journal.disk) (device last) caused e ∙ still.failures;
    left = λ e t. let its = holds (here t) in inr (journal.label, (journal.blocks, (read t, (its.0, omega (arith, its.1, its_format t)))));
    not_halted = (not_caused error (device journal.disk) (device last) caused).1;
  }

-- a refusal after calls that changed nothing
pub refuses_found : {D : Type 0} (device : D → Device) (first last : D) (error : JournalError) → IsQuiet (device first) (device last)
    → (error ≡ Fault → (device last).failures ≢ (device first).failures)
    → (error ≡ NotAVolume → IsTrue (device first).tells → IsNoVolume (device first).content) → error ≢ Memory → error ≢ Halted
    → Refuses device first last error
refuses_found device first last error quiet fault no_volume no_memory not_halted = record {
  since = λ t time c before left. inl (quiet.since t time c before left);
  time = record { size = quiet.size; tells = quiet.tells; later = quiet.later };
  fault = fault;
  no_volume = no_volume;
  memory = λ e. absurd (no_memory e);
  left = λ e t. absurd (no_memory e);
  not_halted = not_halted;
}

-- after a sync that wasn't good
pub refuses_caused : {D : Type 0} (device : D → Device) (first last : D) (error : JournalError) → IsQuiet (device first) (device last)
    → IsCaused error (device first) (device last)
    → (IsTrue (device first).tells → error ≡ Memory → (device last).content ≡ (device first).content) → Refuses device first last error
refuses_caused device first last error quiet caused same = record {
  since = λ t time c before left. inl (quiet.since t time c before left);
  time = record { size = quiet.size; tells = quiet.tells; later = quiet.later };
  fault = fault_caused error (device first) (device last) caused;
  no_volume = λ e. absurd ((not_caused error (device first) (device last) caused).0 e);
  memory = memory_caused error (device first) (device last) caused;
  left = λ e t. inl (same t e);
  not_halted = (not_caused error (device first) (device last) caused).1;
}

-- an opening that synced first
module _ {D : Type 0} (device : D → Device) (first synced : D) (quiet : IsQuiet (device first) (device synced))
    (still : IsSynced (device first) (device synced)) (only : IsTrue (device first).tells
    → LeavesOnly (device synced) (device first).content) where
  synced_tells : IsTrue (device first).tells → IsTrue (device synced).tells
  synced_tells t = subst (λ (b : Bool). IsTrue b) (sym quiet.tells) t

  kept_since : (last : Device) → LeftKept (device synced) last → IsTrue (device first).tells → (t : ℕ) (c : List ℕ)
      → t ≤ (device synced).clock → last.left_since t c → (device synced).left_since t c ⊎ AreSameVolume (device first).content c
  kept_since last left t time c before now =
      subst (λ (x : List ℕ). (device synced).left_since time c ⊎ AreSameVolume x c) (still.content t)
      (left (synced_tells t) time c before now)

  kept_all : (last : Device) → LeftKept (device synced) last → LeftKept (device first) last
  kept_all last left t time c before now =
      ⊎_elim (λ earlier. inl (quiet.since t time c before earlier)) (λ same. inr same)
      (kept_since last left t time c (omega (arith, before, quiet.later)) now)

  pub syncs_first : (last : D) → (device synced).clock ≤ (device last).clock → LeftKept (device synced) (device last)
      → SyncsFirst device first last
  syncs_first last later left = record {
    synced = synced;
    no_write = quiet.writes;
    before = quiet.later;
    later = later;
    until = λ t. quiet.since t;
    content = still.content;
    only = only;
    after = kept_since (device last) left;
  }

  time_all : (last : Device) → Elapses (device synced) last → Elapses (device first) last
  time_all last time = record {
    size = time.size ∙ quiet.size;
    tells = time.tells ∙ quiet.tells;
    later = omega (arith, quiet.later, time.later);
  }

  pub opens_synced : (journal : JournalView D) → Opens device synced journal → Opens device first journal
  opens_synced journal opens = record {
    ready = opens.ready;
    rest = opens.rest;
    stands = λ t. subst (λ (x : List ℕ). StandsFor x journal.label journal.blocks) (still.content t) (opens.stands (synced_tells t));
    format = λ t. ap format_number (sym (still.content t)) ∙ opens.format (synced_tells t);
    whole = opens.whole;
    now = opens.now;
    since = kept_all (device journal.disk) opens.since;
    time = time_all (device journal.disk) opens.time;
    failures = opens.failures ∙ still.failures;
  }

  pub refuses_synced : (last : D) (error : JournalError) → Refuses device synced last error → Refuses device first last error
  refuses_synced last error refuses = record {
    since = kept_all (device last) refuses.since;
    time = time_all (device last) refuses.time;
    fault = λ e same. refuses.fault e (same ∙ sym still.failures);
    no_volume = λ e t. subst (λ (x : List ℕ). IsNoVolume x) (still.content t) (refuses.no_volume e (synced_tells t));
    memory = λ e. refuses.memory e ∙ still.failures;
    left = λ e t. subst (λ (x : List ℕ). LeavesVolume x (device last).content) (still.content t) (refuses.left e (synced_tells t));
    not_halted = refuses.not_halted;
  }

  pub costs_synced : (last : D) → (IsTrue (device synced).tells → Costs 0 (device synced).content (device synced) (device last))
      → IsTrue (device first).tells → Costs 1 (device first).content (device first) (device last)
  costs_synced last costs t =
      let same = still.content t in
      let cost = subst (λ (x : List ℕ). Costs 0 x (device synced) (device last)) same (costs (synced_tells t)) in
      let n = home_syncs (device first).content (open_segments (device first).content) in
      record {
        writes = subst (λ (w : ℕ). IsMore (home_writes (device first).content (open_segments (device first).content)) w
            (device last).writes) quiet.writes cost.writes;
        syncs = cost.syncs ∙ ap (λ (s : ℕ). (s + (0 + n)) % 2 ^ 64) still.syncs ∙ mod-add-mod ((device first).syncs + 1) (2 ^ 64) (0 + n)
            ∙ ap (λ (s : ℕ). s % 2 ^ 64) (omega arith);
      }

-- a journal at rest, after reads alone
pub costs_none : (old new : Device) → IsQuiet old new → IsStill old new → (IsTrue new.tells → open_segments new.content ≡ [])
    → IsTrue old.tells → Costs 0 old.content old new
costs_none old new quiet still none t =
    let segments : open_segments old.content ≡ [] =
    subst (λ (x : List ℕ). open_segments x ≡ []) (still.content t) (none (subst (λ (b : Bool). IsTrue b) (sym quiet.tells) t)) in
    record {
      writes = ap (λ (w : ℕ). w % 2 ^ 64) (quiet.writes
          ∙ sym (ap (λ (ss : List ℕ). old.writes + home_writes old.content ss) segments ∙ plus-zero old.writes));
      syncs = ap (λ (s : ℕ). s % 2 ^ 64) (still.syncs
          ∙ sym (ap (λ (ss : List ℕ). old.syncs + (0 + home_syncs old.content ss)) segments ∙ plus-zero old.syncs));
    }
  where
    plus-zero : (n : ℕ) → n + 0 ≡ n
    plus-zero n = omega arith

-- and one that was carried home after them
pub costs_replayed : (old mid new : Device) (n k : ℕ) → IsQuiet old mid → IsStill old mid
    → (IsTrue mid.tells → home_writes mid.content (open_segments mid.content) ≡ n)
    → (IsTrue mid.tells → home_syncs mid.content (open_segments mid.content) ≡ k) → IsMore n mid.writes new.writes
    → IsMore k mid.syncs new.syncs
    → IsTrue old.tells → Costs 0 old.content old new
costs_replayed old mid new n k quiet still writes syncs more_writes more_syncs t =
    let here = subst (λ (b : Bool). IsTrue b) (sym quiet.tells) t in
    let all : home_writes old.content (open_segments old.content) ≡ n =
    subst (λ (x : List ℕ). home_writes x (open_segments x) ≡ n) (still.content t) (writes here) in
    let both : home_syncs old.content (open_segments old.content) ≡ k =
    subst (λ (x : List ℕ). home_syncs x (open_segments x) ≡ k) (still.content t) (syncs here) in
    record {
      writes = more_writes ∙ ap (λ (w : ℕ). (w + n) % 2 ^ 64) quiet.writes ∙ ap (λ (p : ℕ). (old.writes + p) % 2 ^ 64) (sym all);
      syncs = more_syncs ∙ ap (λ (s : ℕ). (s + k) % 2 ^ 64) still.syncs
          ∙ ap (λ (p : ℕ). p % 2 ^ 64) (let e : old.syncs + k ≡ old.syncs + (0 + home_syncs old.content (open_segments old.content)) =
          omega (arith, both) in e);
    }

pub match_both : {T E : Type 0} (r : Result T E) (P P' : T → Type 0) (Q Q' : E → Type 0) → IfOk r P → IfErr r Q → ((x : T) → P x → P' x)
    → ((y : E) → Q y → Q' y) → MatchResult r P' Q'
match_both (Ok x) P P' Q Q' ok err f h = f x ok
match_both (Err y) P P' Q Q' ok err f h = h y err

-- an opening's end, where both of two facts of a refusal are known
pub err_weaker_both : {T E : Type 0} (r : Result T E) (P P' Q : E → Type 0) → ((y : E) → P y → P' y → Q y) → IfErr r P → IfErr r P'
    → IfErr r Q
err_weaker_both (Ok x) P P' Q f h h' = h
err_weaker_both (Err y) P P' Q f h h' = f y h h'
