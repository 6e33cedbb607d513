-- A journal that takes a batch.
use Rattle.std.proofs.Common.{◌≡◌, ◌≢◌, ◌⊎◌, inl, inr, ◌<◌, ◌≤◌, ℕ, zero, suc, ◌+◌, ◌*◌, Bool, true, false, cond, eqb, List, [], ◌∷◌, ◌++◌}
use Rattle.std.proofs.Common.{length, map, take, refl, sym, ◌∙◌, ap, subst, arith}
use Rattle.std.specs.List.{All}
use Rattle.std.proofs.lemmas.Bool.{cases_Bool, cases_eq, eqb-false}
use Rattle.std.proofs.lemmas.List.{length-take-le, map_more}
use Rattle.disk.specs.Device.{Device}
use Rattle.disk.specs.Image.{part}
use Rattle.model.specs.Volume.{AreDistinct, StandsFor, blocks_from, descriptor_of, epoch_in, format_in, is_open, logical_blocks, number_at}
use Rattle.journal_laws.specs.Held.{AreOpen, HaveLess, HeldBatch, IsAmong}
use Rattle.journal_laws.proofs.Gates.{among_end}
use Rattle.journal_segments.specs.Staged.{IsSound, IsStaged, Staged, held_as, none_staged, staged_at}
use Rattle.journal.specs.Flight.{all_of, flight_in, left_of}
use Rattle.journal_segments.specs.Found.{IsTaken}
use Rattle.journal.specs.Inside.{IsAdmitted, IsKept, blocks_without}
use Rattle.journal.specs.Journal.{IsNextBatch, JournalView, LeavesAdmitted, MayBegin, begins, still_open}
use Rattle.journal.specs.declared.Next.{Next}
use Rattle.journal.specs.declared.Next.TheVariants.{Idle, Descriptor}
use Rattle.journal_segments.proofs.Batches.{sound_of}
use Rattle.journal_segments.proofs.Written.{take_same}
use Rattle.journal.proofs.Flights.{less_before}

among_last : (s : ℕ) (hs : List HeldBatch) (h : HeldBatch) → IsAmong s (hs ++ h ∷ []) → IsAmong s hs ⊎ (s ≡ h.place)
among_last s [] h (inl is) = inr is
among_last s [] h (inr none) = absurd none
among_last s (g ∷ hs) h (inl is) = inl (inl is)
among_last s (g ∷ hs) h (inr rest) = elim (among_last s hs h rest) [
  | inl before ↦ inl (inr before)
  | inr is ↦ inr is
]

-- the first segments have the first places
among_low : (room : List Staged) (n : ℕ) → n ≤ length room → ((t : ℕ) → t < n → (staged_at room t).place ≡ t) → (k : ℕ) → k ≤ n → (s : ℕ)
    → IsAmong s (map held_as (take k room)) → s < n
among_low room n few places zero low s among = absurd among
among_low room n few places (suc k) low s among =
    let here = subst (λ (hs : List HeldBatch). IsAmong s hs)
    (ap (λ (m : ℕ). map held_as (take m room)) (let e : suc k ≡ k + 1 = omega arith in
    e) ∙ map_more held_as room k none_staged (omega (arith, low, few))) among in
    elim (among_last s (map held_as (take k room)) (held_as (staged_at room k)) here) [
      | inl before ↦ among_low room n few places k (omega (arith, low)) s before
      | inr is ↦ omega (arith, is, low, places k (omega (arith, low)))
    ]

among_front : (s : ℕ) (hs : List HeldBatch) (h : HeldBatch) → IsAmong s hs → IsAmong s (hs ++ h ∷ [])
among_front s [] h among = absurd among
among_front s (g ∷ hs) h (inl is) = inl is
among_front s (g ∷ hs) h (inr rest) = inr (among_front s hs h rest)

among_all : (room : List Staged) (n : ℕ) → n ≤ length room → ((t : ℕ) → t < n → (staged_at room t).place ≡ t) → (k : ℕ) → k ≤ n → (s : ℕ)
    → s < k → IsAmong s (map held_as (take k room))
among_all room n few places zero low s below = absurd (omega (arith, below))
among_all room n few places (suc k) low s below =
    subst (λ (hs : List HeldBatch). IsAmong s hs) (sym (map_more held_as room k none_staged (omega (arith, low, few)))
    ∙ ap (λ (m : ℕ). map held_as (take m room)) (let e : k + 1 ≡ suc k = omega arith in e))
    (elim (cases_eq s k) [
      | inl is ↦ among_end s (map held_as (take k room)) (held_as (staged_at room k)) (is ∙ sym (places k (omega (arith, low))))
      | inr other ↦ among_front s (map held_as (take k room)) (held_as (staged_at room k))
          (among_all room n few places k (omega (arith, low)) s (omega (arith, below, other)))
    ])

-- the batch that was taken
taken_staged : (blocks place number last : ℕ) (ns octets : List ℕ) (s : Staged) → IsTaken place number last ns octets s → 1 ≤ length ns
    → length ns ≤ 512 → All (λ n. n < blocks) ns → AreDistinct ns → length octets ≡ 4096 * length ns → IsStaged blocks s
taken_staged blocks place number last ns octets s taken some few below distinct room =
    record {
      size = taken.size;
      count = taken.count ∙ ap length (sym taken.numbers_are);
      zero = taken.zero;
      lists = taken.lists ∙ sym taken.numbers_are;
      distinct = subst (λ (l : List ℕ). AreDistinct l) (sym taken.numbers_are) distinct;
      sound =
          subst (λ (l : List ℕ). IsSound blocks (record {
            number = number_at 0 8 s.descriptor;
            last = number_at 8 8 s.descriptor;
            numbers = l;
            images = s.images;
          })) (sym taken.numbers_are)
          (subst (λ (is : List (List ℕ)). IsSound blocks (record {
            number = number_at 0 8 s.descriptor;
            last = number_at 8 8 s.descriptor;
            numbers = ns;
            images = is;
          })) (sym taken.images_are)
          (sound_of blocks (number_at 0 8 s.descriptor) (number_at 8 8 s.descriptor) ns octets some few below (omega (arith, room))));
    }

module _ (device : Device) (blocks : ℕ) (superblock : List ℕ) (room after : List Staged) (filled : ℕ) (is_last : Bool)
    (kept : IsKept device blocks superblock Idle false room filled is_last) (m : ℕ) (m_is : m ≡ cond is_last 0 (filled + 1))
    (size : length after ≡ length room) (same : (t : ℕ) → t ≢ m → staged_at after t ≡ staged_at room t) where
  was_last : is_last ≡ true → m ≡ 0
  was_last is = m_is ∙ ap (λ (b : Bool). cond b 0 (filled + 1)) is

  was_more : is_last ≡ false → m ≡ filled + 1
  was_more is = m_is ∙ ap (λ (b : Bool). cond b 0 (filled + 1)) is

  pub there : m < length room
  there = elim (cases_Bool is_last) [
    | inl is ↦ omega (arith, was_last is, kept.there)
    | inr is ↦ omega (arith, was_more is, kept.left is)
  ]

  -- the segments that are open are those before it
  pub held_now : map held_as (take m after) ≡ left_of (flight_in room filled is_last)
  held_now = elim (cases_Bool is_last) [
    | inl is ↦ ap (λ (k : ℕ). map held_as (take k after)) (was_last is)
        ∙ ap (λ (b : Bool). cond b [] (all_of (flight_in room filled is_last))) (sym is)
    | inr is ↦
        ap (map held_as) (take_same room after m size (omega (arith, there)) (λ t low. same t (λ e. absurd (omega (arith, low, e)))))
        ∙ ap (λ (k : ℕ). map held_as (take k room)) (was_more is) ∙ map_more held_as room filled none_staged kept.there
        ∙ ap (λ (b : Bool). cond b [] (all_of (flight_in room filled is_last))) (sym is)
  ]

  pub length_now : length (left_of (flight_in room filled is_last)) ≡ m
  length_now = sym (ap length held_now) ∙ Rattle.std.proofs.lemmas.List.length-map (take m after) held_as
      ∙ length-take-le m after (omega (arith, size, there))

  -- they are all those below it
  pub lowest : (s : ℕ) → s < m → IsAmong s (left_of (flight_in room filled is_last))
  lowest s below = elim (cases_Bool is_last) [
    | inl is ↦ absurd (omega (arith, below, was_last is))
    | inr is ↦
        subst (λ (hs : List HeldBatch). IsAmong s hs) (map_more held_as room filled none_staged kept.there
        ∙ ap (λ (b : Bool). cond b [] (all_of (flight_in room filled is_last))) (sym is))
        (among_all room (filled + 1) (omega (arith, kept.there)) (λ t low. (kept.order is t (omega (arith, low))).0) (filled + 1)
        (omega arith) s (omega (arith, below, was_more is)))
  ]

  pub not_among : IsAmong m (left_of (flight_in room filled is_last)) → ⊥
  not_among among = elim (cases_Bool is_last) [
    | inl is ↦ subst (λ (b : Bool). IsAmong m (cond b [] (all_of (flight_in room filled is_last)))) is among
    | inr is ↦
        let here = subst (λ (hs : List HeldBatch). IsAmong m hs) (ap (λ (b : Bool). cond b [] (all_of (flight_in room filled is_last))) is
        ∙ sym (map_more held_as room filled none_staged kept.there)) among in
        let low = among_low room (filled + 1) (omega (arith, kept.there)) (λ t low. (kept.order is t (omega (arith, low))).0) (filled + 1)
        (omega arith) m here in
        absurd (omega (arith, low, was_more is))
  ]

  closed : (x : List ℕ) → AreOpen (left_of (flight_in room filled is_last)) x → m < Rattle.model.specs.Volume.segment_count x
      → is_open m x ≡ false
  closed x are within = elim (cases_Bool (is_open m x)) [
    | inr shut ↦ shut
    | inl opened ↦ absurd (not_among (are.all m (within, opened)))
  ]

  module _ (last : ℕ) (ns octets : List ℕ) (taken : IsTaken m (m + 1) last ns octets (staged_at after m)) (some : 1 ≤ length ns)
      (few : length ns ≤ 512) (below : All (λ n. n < blocks) ns) (distinct : AreDistinct ns)
      (whole : length octets ≡ 4096 * length ns) where
    abbrev next_last : Bool
    next_last = eqb (m + 1) (length after)

    staged_now : (t : ℕ) → t ≤ m → IsStaged blocks (staged_at after t)
    staged_now t low = elim (cases_eq t m) [
      | inl is ↦ subst (λ (k : ℕ). IsStaged blocks (staged_at after k)) (sym is)
          (taken_staged blocks m (m + 1) last ns octets (staged_at after m) taken some few below distinct whole)
      | inr other ↦ subst (IsStaged blocks) (sym (same t other))
          (kept.staged (before t low other) t (omega (arith, was_more (before t low other), low, other)))
    ]
      where
        before : (t : ℕ) → t ≤ m → t ≢ m → is_last ≡ false
        before t low other = elim (cases_Bool is_last) [
          | inl is ↦ absurd (omega (arith, was_last is, low, other))
          | inr is ↦ is
        ]

    order_now : (t : ℕ) → t ≤ m → ((staged_at after t).place ≡ t) × (number_at 0 8 (staged_at after t).descriptor ≡ t + 1)
    order_now t low = elim (cases_eq t m) [
      | inl is ↦ subst (λ (k : ℕ). ((staged_at after k).place ≡ k) × (number_at 0 8 (staged_at after k).descriptor ≡ k + 1)) (sym is)
          (taken.place_is, taken.number_is)
      | inr other ↦
          elim (cases_Bool is_last) [
            | inl is ↦ absurd (omega (arith, was_last is, low, other))
            | inr is ↦ subst (λ (s : Staged). (s.place ≡ t) × (number_at 0 8 s.descriptor ≡ t + 1)) (sym (same t other))
                (kept.order is t (omega (arith, was_more is, low, other)))
          ]
    ]

    pub greatest : HaveLess (number_at 0 8 (staged_at after m).descriptor) (left_of (flight_in room filled is_last))
    greatest = subst (λ (hs : List HeldBatch). HaveLess (number_at 0 8 (staged_at after m).descriptor) hs) held_now
        (less_before after m next_last (omega (arith, size, there)) order_now)

    pub begun : IsKept device blocks superblock Descriptor false after m next_last
    begun = record {
      size = kept.size ∙ ap (λ (k : ℕ). 4096 * Rattle.model.specs.Volume.home_place k blocks) (sym size);
      low = kept.low;
      high = kept.high;
      superblock_size = kept.superblock_size;
      few = omega (arith, size, kept.few);
      there = omega (arith, size, there);
      place = omega (arith, taken.place_is, size, there);
      places = λ live t low. omega (arith, (order_now t low).0, low, size, there);
      left = λ e. omega (arith, eqb-false (m + 1) (length after) e, size, there);
      within = tt;
      staged = λ live. staged_now;
      order = λ o. order_now;
      described = λ e.
          taken.descriptor_is
          ∙ (λ i. descriptor_of (sym taken.number_is i) (sym taken.last_is i) (sym taken.numbers_are i));
      told = λ t.
          let told = kept.told t in
          let are : AreOpen (left_of (flight_in room filled is_last)) device.content = told.holds refl in
          record {
            stands = told.stands;
            size = told.size;
            count = told.count ∙ sym size;
            admits = λ c left. inl (stands_at c (told.admits c left));
            holds = λ runs. (
              subst (λ (hs : List HeldBatch). AreOpen hs device.content) (sym held_now) are,
              subst (λ (k : ℕ). is_open k device.content ≡ false) (sym taken.place_is)
                  (closed device.content are (omega (arith, told.count, there))),
            );
            same = λ runs c left. told.same refl c left;
          };
      format_is = λ t runs. kept.format_is t refl;
      epoch_is = λ t runs. kept.epoch_is t refl;
      formats = kept.formats;
    }
      where
        stands_at : {label : List ℕ} {bs more : List (List ℕ)} (c : List ℕ) → IsAdmitted Idle label bs more c → StandsFor c label bs
        stands_at c (inl stands) = stands
        stands_at c (inr commits) = let wrong = commits.0 in absurd (cc)

-- ---- as those who use the journal see it

module _ (D : Type 0) (device : D → Device) (disk : D) (blocks : ℕ) (superblock : List ℕ) (room after : List Staged) (filled m : ℕ)
    (is_last last_now : Bool) (next : Next) (halted : Bool) (last : ℕ) (ns octets : List ℕ) where
  abbrev view : List Staged → ℕ → Bool → Next → JournalView D
  view segments at lasts next = record {
    disk = disk;
    label = part 20 128 superblock;
    format = format_in superblock;
    epoch = epoch_in superblock;
    size = blocks;
    segments = length segments;
    blocks = blocks_without (staged_at segments at).place next (device disk).content;
    next = next;
    halted = halted;
    held = map held_as (take at segments);
    place = (staged_at segments at).place;
    number = number_at 0 8 (staged_at segments at).descriptor;
    last = number_at 8 8 (staged_at segments at).descriptor;
    numbers = (staged_at segments at).numbers;
    images = (staged_at segments at).images;
    is_last = lasts;
  }

  abbrev old : JournalView D
  old = view room filled is_last next

  abbrev new : JournalView D
  new = view after m last_now Descriptor

  module _ (was : IsKept (device disk) blocks superblock next halted room filled is_last) (may : MayBegin old ns octets)
      (m_is : m ≡ cond is_last 0 (filled + 1)) (size : length after ≡ length room)
      (same : (t : ℕ) → t ≢ m → staged_at after t ≡ staged_at room t) (taken : IsTaken m (m + 1) last ns octets (staged_at after m))
      (last_is : last_now ≡ eqb (m + 1) (length after)) where
    kept : IsKept (device disk) blocks superblock Idle false room filled is_last
    kept = subst (λ (n : Next). IsKept (device disk) blocks superblock n false room filled is_last) may.ready.1
        (subst (λ (b : Bool). IsKept (device disk) blocks superblock next b room filled is_last) may.ready.0 was)

    held : map held_as (take m after) ≡ still_open old
    held = held_now (device disk) blocks superblock room after filled is_last kept m m_is size same

    count : length (still_open old) ≡ m
    count = length_now (device disk) blocks superblock room after filled is_last kept m m_is size same

    its : IsKept (device disk) blocks superblock Descriptor false after m (eqb (m + 1) (length after))
    its = begun (device disk) blocks superblock room after filled is_last kept m m_is size same last ns octets taken may.some may.few
        may.below may.distinct may.images

    pub begun_kept : IsKept (device disk) blocks superblock Descriptor halted after m last_now
    begun_kept = subst (λ (b : Bool). IsKept (device disk) blocks superblock Descriptor halted after m b) (sym last_is)
        (subst (λ (b : Bool). IsKept (device disk) blocks superblock Descriptor b after m (eqb (m + 1) (length after)))
        (sym may.ready.0) its)

    pub begun_as : new ≡ begins old last ns (blocks_from 0 (length ns) octets)
    begun_as =
        let content = (device disk).content in
        let its_blocks : logical_blocks content ≡ blocks_without (staged_at room filled).place next content =
        ap (λ (n : Next). blocks_without (staged_at room filled).place n content) (sym may.ready.1) in
        let place = taken.place_is ∙ sym count in
        let number = taken.number_is ∙ ap (λ (k : ℕ). k + 1) (sym count) in
        let lasts = last_is ∙ ap (λ (k : ℕ). eqb (k + 1) (length after)) (sym count)
        ∙ ap (λ (k : ℕ). eqb (length (still_open old) + 1) k) size in
        λ i. record {
          disk = disk;
          label = part 20 128 superblock;
          format = format_in superblock;
          epoch = epoch_in superblock;
          size = blocks;
          segments = size i;
          blocks = its_blocks i;
          next = Descriptor;
          halted = halted;
          held = held i;
          place = place i;
          number = number i;
          last = taken.last_is i;
          numbers = taken.numbers_are i;
          images = taken.images_are i;
          is_last = lasts i;
        }

    pub begun_next : IsNextBatch new
    begun_next = record {
      lowest = λ s below. subst (λ (hs : List HeldBatch). IsAmong s hs) (sym held)
          (lowest (device disk) blocks superblock room after filled is_last kept m m_is size same s
          (subst (λ (p : ℕ). s < p) taken.place_is below));
      closed = λ among. not_among (device disk) blocks superblock room after filled is_last kept m m_is size same
          (subst (λ (p : ℕ). IsAmong p (still_open old)) taken.place_is
          (subst (λ (hs : List HeldBatch). IsAmong (staged_at after m).place hs) held among));
      greatest = subst (λ (hs : List HeldBatch). HaveLess (number_at 0 8 (staged_at after m).descriptor) hs) (sym held)
          (greatest (device disk) blocks superblock room after filled is_last kept m m_is size same last ns octets taken may.some
          may.few may.below may.distinct may.images);
    }

    pub begun_admits : LeavesAdmitted device new
    begun_admits t image left = ((its.told t).admits image left, its.formats t image left)
