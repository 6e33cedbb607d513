-- What an image stands for when a gate changes.
use Rattle.std.proofs.Common.{◌≡◌, ◌≢◌, ◌⊎◌, inl, inr, ◌<◌, ℕ, ◌+◌, ◌-◌, Bool, true, false, List, [], ◌∷◌, ◌++◌, map, refl}
use Rattle.std.proofs.Common.{sym, ◌∙◌, ap, subst, arith}
use Rattle.std.specs.List.{All, Contains, filter, range_with_len}
use Rattle.std.proofs.lemmas.Bool.{cases_Bool, cases_eq}
use Rattle.std.proofs.lemmas.List.{map-append}
use Rattle.std.proofs.lemmas.List.Elements.{All-head, All-tail}
use Rattle.model.specs.Volume.{AreDistinct, Batch, IsDescriptor, StandsFor, all_laid_over, batch_in, block, descriptor_place, gate_place}
use Rattle.model.specs.Volume.{epoch_in, home, home_place, home_size, image_place, is_open, laid_over, logical_blocks, open_segments}
use Rattle.model.specs.Volume.{rising, segment_count}
use Rattle.model.proofs.Distinct.{absent_cons, distinct_insert, distinct_remove}
use Rattle.journal_laws.specs.Batches.{AreAbove, AreBelow, AreFull}
use Rattle.journal_laws.specs.Held.{AreHeld, AreOpen, AreRising, HaveLess, HaveMore, HeldBatch, IsAmong, batches_of}
use Rattle.journal_laws.specs.Images.{IsCarried, IsInside, IsOpenIn, SameBut, open_batches}
use Rattle.journal_laws.proofs.Laying.{all_append, last_again}
use Rattle.journal_laws.proofs.Ordering.{greatest_last, least_first}
use Rattle.journal_laws.proofs.Places.{before, behind, each_of, filter_same, map_same, with_place, without_place}
use Rattle.journal_laws.proofs.Standing.{are_open_kept, batch_same, count_same, head_same, held_same, home_same, home_size_same, label_same}
use Rattle.journal_laws.proofs.Standing.{batches_same, gate_same, stands_over, superblock_same, valid_open}

-- numbers of batches on one side of another
below_all : (x : List ℕ) (n : ℕ) (ss : List ℕ) → All (λ s. (batch_in s x).number < n) ss → AreBelow n (map (λ s. batch_in s x) ss)
below_all x n [] all = tt
below_all x n (s ∷ ss) all = (
  All-head (λ s. (batch_in s x).number < n) s ss all,
  below_all x n ss (All-tail (λ s. (batch_in s x).number < n) s ss all),
)

above_all : (x : List ℕ) (n : ℕ) (ss : List ℕ) → All (λ s. n < (batch_in s x).number) ss → AreAbove n (map (λ s. batch_in s x) ss)
above_all x n [] all = tt
above_all x n (s ∷ ss) all = (
  All-head (λ s. n < (batch_in s x).number) s ss all,
  above_all x n ss (All-tail (λ s. n < (batch_in s x).number) s ss all),
)

not_in_below : (x : List ℕ) (n : ℕ) (ss : List ℕ) → All (λ s. (batch_in s x).number < n) ss
    → ¬ (Contains (map (λ s. (batch_in s x).number) ss) n)
not_in_below x n [] all = λ has. absurd (omega (arith, has.1))
not_in_below x n (s ∷ ss) all =
    absent_cons n (batch_in s x).number (map (λ s. (batch_in s x).number) ss)
    (λ e. (let less = All-head (λ s. (batch_in s x).number < n) s ss all in absurd (omega (arith, less, e))))
    (not_in_below x n ss (All-tail (λ s. (batch_in s x).number < n) s ss all))

-- one more segment in memory
held_more : (x : List ℕ) (held : List HeldBatch) (h : HeldBatch) → AreHeld held x → IsOpenIn h.place x × (batch_in h.place x ≡ h.batch)
    → AreHeld (held ++ h ∷ []) x
held_more x [] h each is = (is, tt)
held_more x (g ∷ held) h each is = (each.0, held_more x held h each.1 is)

pub among_end : (s : ℕ) (held : List HeldBatch) (h : HeldBatch) → s ≡ h.place → IsAmong s (held ++ h ∷ [])
among_end s [] h is = inl is
among_end s (g ∷ held) h is = inr (among_end s held h is)

among_more : (s : ℕ) (held more : List HeldBatch) → IsAmong s held → IsAmong s (held ++ more)
among_more s [] more among = absurd among
among_more s (g ∷ held) more (inl is) = inl is
among_more s (g ∷ held) more (inr rest) = inr (among_more s held more rest)

more_behind : (n : ℕ) (held : List HeldBatch) (h : HeldBatch) → HaveMore n held → n < h.batch.number → HaveMore n (held ++ h ∷ [])
more_behind n [] h more less = (less, tt)
more_behind n (g ∷ held) h more less = (more.0, more_behind n held h more.1 less)

rising_more : (held : List HeldBatch) (h : HeldBatch) → AreRising held → HaveLess h.batch.number held → AreRising (held ++ h ∷ [])
rising_more [] h rise less = (tt, tt)
rising_more (g ∷ held) h rise less = (more_behind g.batch.number held h rise.0 less.0, rising_more held h rise.1 less.1)

-- the greatest is greater than each open one, and the first is the least
pub less_than : (x : List ℕ) (n : ℕ) (held : List HeldBatch) → AreOpen held x → HaveLess n held → (s : ℕ) → IsOpenIn s x
    → (batch_in s x).number < n
less_than x n held are less s opened = go held are.each less (are.all s opened)
  where
    go : (hs : List HeldBatch) → AreHeld hs x → HaveLess n hs → IsAmong s hs → (batch_in s x).number < n
    go [] each has among = absurd among
    go (h ∷ hs) each has (inl is) =
        let equal : (batch_in s x).number ≡ h.batch.number = ap (λ (b : Batch). b.number) (ap (λ (m : ℕ). batch_in m x) is ∙ each.0.1) in
        omega (arith, has.0, equal)
    go (h ∷ hs) each has (inr rest) = go hs each.1 has.1 rest

pub first_is_least : (x : List ℕ) (h : HeldBatch) (held : List HeldBatch) → AreOpen (h ∷ held) x → (s : ℕ) → IsOpenIn s x → s ≢ h.place
    → (batch_in h.place x).number < (batch_in s x).number
first_is_least x h held are s opened other = elim (are.all s opened) [
  | inl here ↦ absurd (other here)
  | inr rest ↦ go held are.each.1 are.rise.0 rest
]
  where
    go : (hs : List HeldBatch) → AreHeld hs x → HaveMore h.batch.number hs → IsAmong s hs
        → (batch_in h.place x).number < (batch_in s x).number
    go [] each more among = absurd among
    go (g ∷ hs) each more (inl is) =
        let equal : (batch_in s x).number ≡ g.batch.number = ap (λ (b : Batch). b.number) (ap (λ (m : ℕ). batch_in m x) is ∙ each.0.1) in
        let its : (batch_in h.place x).number ≡ h.batch.number = ap (λ (b : Batch). b.number) are.each.0.1 in
        omega (arith, more.0, equal, its)
    go (g ∷ hs) each more (inr rest) = go hs each.1 more.1 rest

-- two images that differ in the gate block of one segment alone
module _ (x c label : List ℕ) (blocks : List (List ℕ)) (m : ℕ) (stands : StandsFor x label blocks) (within : m < segment_count x)
    (same : SameBut (λ k. k ≡ gate_place m) x c) where
  zeroth : block 0 c ≡ block 0 x
  zeroth = same.same 0 (λ e. absurd (omega (arith, e)))

  homes : home c ≡ home x
  homes = home_same x c (head_same x c zeroth same.size)
      (λ k low. same.same (home_place (segment_count x) k) (λ e. absurd (omega (arith, e, within))))

  other_gate : (s : ℕ) → s ≢ m → is_open s c ≡ is_open s x
  other_gate s other = gate_same s x c (ap epoch_in zeroth) (same.same (gate_place s) (λ e. absurd (omega (arith, e, other))))

  inside : (s k : ℕ) → IsInside s k → block k c ≡ block k x
  inside s k here = same.same k (λ e. absurd (omega (arith, e, here.0, here.1)))

  gates_kept : is_open m c ≡ is_open m x → (s : ℕ) → s < segment_count x → is_open s c ≡ is_open s x
  gates_kept is s there = elim (cases_eq s m) [
    | inl here ↦ ap (λ (n : ℕ). is_open n c) here ∙ is ∙ ap (λ (n : ℕ). is_open n x) (sym here)
    | inr other ↦ other_gate s other
  ]

  -- and both are open there, or neither
  pub gate_kept : is_open m c ≡ is_open m x → StandsFor c label blocks
  gate_kept is =
      subst (λ (bs : List (List ℕ)). StandsFor c label bs) (ap (λ (h : List (List ℕ)). all_laid_over h (open_batches x)) homes
      ∙ stands.has_blocks)
      (stands_over x c label blocks stands (head_same x c zeroth same.size) (gates_kept is) (λ s opened k here. inside s k here))

  -- with the segments in memory
  pub held_kept : is_open m c ≡ is_open m x → (held : List HeldBatch) → AreOpen held x → AreOpen held c
  held_kept is held are = are_open_kept x c label blocks stands (head_same x c zeroth same.size) (gates_kept is)
      (λ s opened k here. inside s k here) held are

  pub carried_kept : is_open m c ≡ is_open m x → IsCarried x → IsCarried c
  carried_kept is carried closed left all =
      let same_batches = batches_same x c label blocks stands (head_same x c zeroth same.size) (gates_kept is)
      (λ s opened k here. inside s k here) in
      ap (λ (h : List (List ℕ)). all_laid_over h left) homes ∙ carried closed left (all ∙ same_batches) ∙ sym homes

  its_batch : (s : ℕ) → IsDescriptor (home_size x) (block (descriptor_place s) x) → batch_in s c ≡ batch_in s x
  its_batch s valid = batch_same s x c (inside s (descriptor_place s) (omega arith, omega arith))
      (λ i low. inside s (image_place s i) (omega arith, omega (arith, low, valid.few)))

  its_descriptor : (s : ℕ) → IsDescriptor (home_size x) (block (descriptor_place s) x)
      → IsDescriptor (home_size c) (block (descriptor_place s) c)
  its_descriptor s valid =
      subst (λ (n : ℕ). IsDescriptor n (block (descriptor_place s) c)) (sym (home_size_same x c zeroth same.size))
      (subst (λ (b : List ℕ). IsDescriptor (home_size x) b) (sym (inside s (descriptor_place s) (omega arith, omega arith))) valid)

  abbrev tests : List ℕ → ℕ → Bool
  tests image s = is_open s image

  abbrev front : List ℕ
  front = before (tests x) m (segment_count x) within

  abbrev back : List ℕ
  back = behind (tests x) m (segment_count x) within

  front_same : before (tests c) m (segment_count x) within ≡ front
  front_same = filter_same (tests c) (tests x) 0 m (λ s low high. other_gate s (λ e. absurd (omega (arith, e, high))))

  back_same : behind (tests c) m (segment_count x) within ≡ back
  back_same = filter_same (tests c) (tests x) (m + 1) (segment_count x - m - 1)
      (λ s low high. other_gate s (λ e. absurd (omega (arith, e, low))))

  open_at : open_segments c ≡ filter (tests c) (range_with_len 0 (segment_count x))
  open_at = ap (λ (n : ℕ). filter (tests c) (range_with_len 0 n)) (count_same x c zeroth same.size)

  -- ---- the gate is opened, of a batch with the greatest number

  module _ (shut : is_open m x ≡ false) (opened : is_open m c ≡ true) (valid : IsDescriptor (home_size x) (block (descriptor_place m) x))
      (greatest : (s : ℕ) → IsOpenIn s x → (batch_in s x).number < (batch_in m x).number) where
    was_valid : (s : ℕ) → s < segment_count x → is_open s c ≡ true → IsDescriptor (home_size x) (block (descriptor_place s) x)
    was_valid s there is = elim (cases_eq s m) [
      | inl here ↦ subst (λ (n : ℕ). IsDescriptor (home_size x) (block (descriptor_place n) x)) (sym here) valid
      | inr other ↦ valid_open x label blocks stands s (there, sym (other_gate s other) ∙ is)
    ]

    opens_now : open_segments c ≡ front ++ m ∷ back
    opens_now = open_at ∙ with_place (tests c) m (segment_count x) within opened
        ∙ ap (λ (l : List ℕ). l ++ m ∷ behind (tests c) m (segment_count x) within) front_same
        ∙ ap (λ (l : List ℕ). front ++ m ∷ l) back_same

    opens_then : open_segments x ≡ front ++ back
    opens_then = without_place (tests x) m (segment_count x) within shut

    map_now : {B : Type 0} (f : Batch → B)
        → map (λ s. f (batch_in s c)) (open_segments c) ≡ map (λ s. f (batch_in s x)) front ++ f (batch_in m x) ∷ map
        (λ s. f (batch_in s x)) back
    map_now {B} f =
        ap (map (λ s. f (batch_in s c))) open_at
        ∙ map_same (tests c) (λ s. f (batch_in s c)) (λ s. f (batch_in s x)) 0 (segment_count x)
        (λ s low high is. ap f (its_batch s (was_valid s (omega (arith, high)) is)))
        ∙ ap (map (λ s. f (batch_in s x))) (sym open_at ∙ opens_now)
        ∙ map-append (λ s. f (batch_in s x)) front (m ∷ back)

    map_then : {B : Type 0} (f : Batch → B)
        → map (λ s. f (batch_in s x)) front ++ map (λ s. f (batch_in s x)) back ≡ map (λ s. f (batch_in s x)) (open_segments x)
    map_then f = sym (map-append (λ s. f (batch_in s x)) front back) ∙ ap (map (λ s. f (batch_in s x))) (sym opens_then)

    front_below : All (λ s. (batch_in s x).number < (batch_in m x).number) front
    front_below = each_of (λ s. (batch_in s x).number < (batch_in m x).number) (tests x) 0 m
        (λ s low high is. greatest s (omega (arith, high, within), is))

    back_below : All (λ s. (batch_in s x).number < (batch_in m x).number) back
    back_below = each_of (λ s. (batch_in s x).number < (batch_in m x).number) (tests x) (m + 1) (segment_count x - m - 1)
        (λ s low high is. greatest s (omega (arith, low, high, within), is))

    pub batches_opened : open_batches c ≡ open_batches x ++ batch_in m x ∷ []
    batches_opened =
        ap rising (map_now (λ b. b))
        ∙ greatest_last (map (λ s. batch_in s x) front) (map (λ s. batch_in s x) back) (batch_in m x)
        (below_all x (batch_in m x).number front front_below) (below_all x (batch_in m x).number back back_below)
        ∙ ap (λ (l : List Batch). rising l ++ batch_in m x ∷ []) (map_then (λ b. b))

    -- the segments in memory, with this one behind them
    pub held_opened : (held : List HeldBatch) → AreOpen held x → HaveLess (batch_in m x).number held
        → AreOpen (held ++ record { place = m; batch = batch_in m x } ∷ []) c
    held_opened held are less = record {
      batches = batches_opened ∙ ap (λ (bs : List Batch). bs ++ batch_in m x ∷ []) are.batches
          ∙ sym (map-append (λ (h : HeldBatch). h.batch) held (record { place = m; batch = batch_in m x } ∷ []));
      each =
          held_more c held (record { place = m; batch = batch_in m x })
          (held_same x c held
          (λ s is. (
            (
              omega (arith, is.0, count_same x c zeroth same.size),
              other_gate s (λ e. absurd (let both : true ≡ false = sym is.1 ∙ ap (λ (n : ℕ). is_open n x) e ∙ shut in cc)) ∙ is.1,
            ),
            its_batch s (valid_open x label blocks stands s is),
          ))
          are.each)
          ((omega (arith, within, count_same x c zeroth same.size), opened), its_batch m valid);
      all = λ s is. elim (cases_eq s m) [
        | inl here ↦ among_end s held (record { place = m; batch = batch_in m x }) here
        | inr other ↦ among_more s held (record { place = m; batch = batch_in m x } ∷ [])
            (are.all s (omega (arith, is.0, count_same x c zeroth same.size), sym (other_gate s other) ∙ is.1))
      ];
      rise = rising_more held (record { place = m; batch = batch_in m x }) are.rise less;
    }

    pub gate_opened : StandsFor c label (laid_over blocks (batch_in m x).numbers (batch_in m x).images)
    gate_opened = record {
      has_superblock = superblock_same x c zeroth same.size stands.has_superblock;
      has_label = label_same x c zeroth same.size ∙ stands.has_label;
      has_batches =
          subst (λ (ss : List ℕ). All (λ s. IsDescriptor (home_size c) (block (descriptor_place s) c)) ss) (sym open_at)
          (each_of (λ s. IsDescriptor (home_size c) (block (descriptor_place s) c)) (tests c) 0 (segment_count x)
          (λ s low high is. its_descriptor s (was_valid s (omega (arith, high)) is)));
      has_order =
          subst (λ (ns : List ℕ). AreDistinct ns) (sym (map_now (λ b. b.number)))
          (distinct_insert (batch_in m x).number (map (λ s. (batch_in s x).number) front) (map (λ s. (batch_in s x).number) back)
          (subst (λ (ns : List ℕ). AreDistinct ns) (sym (map_then (λ b. b.number))) stands.has_order)
          (not_in_below x (batch_in m x).number front front_below) (not_in_below x (batch_in m x).number back back_below));
      has_blocks =
          ap (λ (h : List (List ℕ)). all_laid_over h (open_batches c)) homes
          ∙ ap (all_laid_over (home x)) batches_opened
          ∙ all_append (open_batches x) (batch_in m x ∷ []) (home x)
          ∙ ap (λ (bs : List (List ℕ)). laid_over bs (batch_in m x).numbers (batch_in m x).images) stands.has_blocks;
    }

  -- ---- the gate is closed, of the batch with the least number, once all are carried home

  module _ (opened : is_open m x ≡ true) (shut : is_open m c ≡ false) where
    not_here : (s : ℕ) → is_open s c ≡ true → s ≢ m
    not_here s is e = let both : true ≡ false = sym is ∙ ap (λ (n : ℕ). is_open n c) e ∙ shut in absurd (cc both)

    still_open : (s : ℕ) → s < segment_count x → is_open s c ≡ true → IsOpenIn s x
    still_open s there is = (there, sym (other_gate s (not_here s is)) ∙ is)

    opens_left : open_segments c ≡ front ++ back
    opens_left = open_at ∙ without_place (tests c) m (segment_count x) within shut
        ∙ ap (λ (l : List ℕ). l ++ behind (tests c) m (segment_count x) within) front_same ∙ ap (λ (l : List ℕ). front ++ l) back_same

    opens_before : open_segments x ≡ front ++ m ∷ back
    opens_before = with_place (tests x) m (segment_count x) within opened

    map_left : {B : Type 0} (f : Batch → B)
        → map (λ s. f (batch_in s c)) (open_segments c) ≡ map (λ s. f (batch_in s x)) front ++ map (λ s. f (batch_in s x)) back
    map_left {B} f =
        ap (map (λ s. f (batch_in s c))) open_at
        ∙ map_same (tests c) (λ s. f (batch_in s c)) (λ s. f (batch_in s x)) 0 (segment_count x)
        (λ s low high is. ap f (its_batch s (valid_open x label blocks stands s (still_open s (omega (arith, high)) is))))
        ∙ ap (map (λ s. f (batch_in s x))) (sym open_at ∙ opens_left)
        ∙ map-append (λ s. f (batch_in s x)) front back

    map_before : {B : Type 0} (f : Batch → B)
        → map (λ s. f (batch_in s x)) (open_segments x) ≡ map (λ s. f (batch_in s x)) front ++ f (batch_in m x) ∷ map
        (λ s. f (batch_in s x)) back
    map_before f = ap (map (λ s. f (batch_in s x))) opens_before ∙ map-append (λ s. f (batch_in s x)) front (m ∷ back)

    -- what is open still stands for something
    pub valid_shut : StandsFor c label (logical_blocks c)
    valid_shut = record {
      has_superblock = superblock_same x c zeroth same.size stands.has_superblock;
      has_label = label_same x c zeroth same.size ∙ stands.has_label;
      has_batches =
          subst (λ (ss : List ℕ). All (λ s. IsDescriptor (home_size c) (block (descriptor_place s) c)) ss) (sym open_at)
          (each_of (λ s. IsDescriptor (home_size c) (block (descriptor_place s) c)) (tests c) 0 (segment_count x)
          (λ s low high is. its_descriptor s (valid_open x label blocks stands s (still_open s (omega (arith, high)) is))));
      has_order =
          subst (λ (ns : List ℕ). AreDistinct ns) (sym (map_left (λ b. b.number)))
          (distinct_remove (batch_in m x).number (map (λ s. (batch_in s x).number) front) (map (λ s. (batch_in s x).number) back)
          (subst (λ (ns : List ℕ). AreDistinct ns) (map_before (λ b. b.number)) stands.has_order));
      has_blocks = refl;
    }

    module _ (least : (s : ℕ) → IsOpenIn s x → s ≢ m → (batch_in m x).number < (batch_in s x).number) (carried : IsCarried x) where
      pub batches_closed : open_batches x ≡ batch_in m x ∷ open_batches c
      batches_closed =
          ap rising (map_before (λ b. b))
          ∙ least_first (map (λ s. batch_in s x) front) (map (λ s. batch_in s x) back) (batch_in m x)
          (above_all x (batch_in m x).number front
          (each_of (λ s. (batch_in m x).number < (batch_in s x).number) (tests x) 0 m
          (λ s low high is. least s (omega (arith, high, within), is) (λ e. absurd (omega (arith, e, high))))))
          (above_all x (batch_in m x).number back
          (each_of (λ s. (batch_in m x).number < (batch_in s x).number) (tests x) (m + 1) (segment_count x - m - 1)
          (λ s low high is. least s (omega (arith, low, high, within), is) (λ e. absurd (omega (arith, e, low))))))
          ∙ ap (λ (l : List Batch). batch_in m x ∷ rising l) (sym (map_left (λ b. b)))

      -- the segments in memory, without this one
      pub held_closed : (h : HeldBatch) (held : List HeldBatch) → h.place ≡ m → AreOpen (h ∷ held) x → AreOpen held c
      held_closed h held here are = record {
        batches = let all : batch_in m x ∷ open_batches c ≡ h.batch ∷ batches_of held = sym batches_closed ∙ are.batches in cc;
        each = held_left held are.rise.0 are.each.1;
        all = λ s is.
            let there : s < segment_count x = omega (arith, is.0, count_same x c zeroth same.size) in
            elim (are.all s (still_open s there is.1)) [
              | inl first ↦ absurd (not_here s is.1 (first ∙ here))
              | inr rest ↦ rest
            ];
        rise = are.rise.1;
      }
        where
          held_left : (hs : List HeldBatch) → HaveMore h.batch.number hs → AreHeld hs x → AreHeld hs c
          held_left [] more each = tt
          held_left (g ∷ hs) more each =
              let other : g.place ≢ m = λ e. absurd (
              let same_batch : g.batch ≡ h.batch = sym each.0.1 ∙ ap (λ (s : ℕ). batch_in s x) (e ∙ sym here) ∙ are.each.0.1 in
              let equal : g.batch.number ≡ h.batch.number = ap (λ (b : Batch). b.number) same_batch in
              omega (arith, more.0, equal)
              ) in (
                (
                  (omega (arith, each.0.0.0, count_same x c zeroth same.size), other_gate g.place other ∙ each.0.0.1),
                  its_batch g.place (valid_open x label blocks stands g.place each.0.0) ∙ each.0.1,
                ),
                held_left hs more.1 each.1,
              )

      pub still_carried : IsCarried c
      still_carried closed left is =
          ap (λ (h : List (List ℕ)). all_laid_over h left) homes
          ∙ carried (batch_in m x ∷ closed) left (ap (λ (l : List Batch). batch_in m x ∷ l) is ∙ sym batches_closed) ∙ sym homes

      pub gate_closed_now : StandsFor c label blocks
      gate_closed_now =
          subst (λ (bs : List (List ℕ)). StandsFor c label bs) (still_carried [] (open_batches c) refl ∙ homes
          ∙ sym (carried [] (open_batches x) refl) ∙ stands.has_blocks)
          valid_shut

-- what was carried home lies there, however many of the first gates are closed
pub carried_home : (x : List ℕ) (first : List (List ℕ)) → AreFull (open_batches x) → home x ≡ all_laid_over first (open_batches x)
    → IsCarried x
carried_home x first full is closed left all =
    ap (λ (h : List (List ℕ)). all_laid_over h left) (is ∙ ap (all_laid_over first) (sym all))
    ∙ last_again closed left first (subst AreFull (sym all) full)
    ∙ sym (is ∙ ap (all_laid_over first) (sym all))

-- the gate is opened, or it isn't yet
pub opened_or_not : (x c label : List ℕ) (blocks : List (List ℕ)) (m : ℕ) → StandsFor x label blocks → is_open m x ≡ false
    → m < segment_count x → IsDescriptor (home_size x) (block (descriptor_place m) x)
    → ((s : ℕ) → IsOpenIn s x → (batch_in s x).number < (batch_in m x).number) → SameBut (λ k. k ≡ gate_place m) x c
    → StandsFor c label blocks ⊎ StandsFor c label (laid_over blocks (batch_in m x).numbers (batch_in m x).images)
opened_or_not x c label blocks m stands shut within valid greatest same = elim (cases_Bool (is_open m c)) [
  | inl opened ↦ inr (gate_opened x c label blocks m stands within same shut opened valid greatest)
  | inr still ↦ inl (gate_kept x c label blocks m stands within same (still ∙ sym shut))
]

-- the gate is closed, or it isn't yet
pub closed_or_not : (x c label : List ℕ) (blocks : List (List ℕ)) (m : ℕ) → StandsFor x label blocks → IsOpenIn m x
    → ((s : ℕ) → IsOpenIn s x → s ≢ m → (batch_in m x).number < (batch_in s x).number) → IsCarried x → SameBut (λ k. k ≡ gate_place m) x c
    → StandsFor c label blocks × IsCarried c
closed_or_not x c label blocks m stands opened least carried same = elim (cases_Bool (is_open m c)) [
  | inl still ↦ (
    gate_kept x c label blocks m stands opened.0 same (still ∙ sym opened.1),
    carried_kept x c label blocks m stands opened.0 same (still ∙ sym opened.1) carried,
  )
  | inr shut ↦ (
    gate_closed_now x c label blocks m stands opened.0 same opened.1 shut least carried,
    still_carried x c label blocks m stands opened.0 same opened.1 shut least carried,
  )
]

-- and with the segments in memory
pub opened_open : (x c label : List ℕ) (blocks : List (List ℕ)) (m : ℕ) (held : List HeldBatch) → StandsFor x label blocks
    → is_open m x ≡ false
    → m < segment_count x → IsDescriptor (home_size x) (block (descriptor_place m) x) → AreOpen held x → HaveLess (batch_in m x).number held
    → SameBut (λ k. k ≡ gate_place m) x c → is_open m c ≡ true
    → StandsFor c label (laid_over blocks (batch_in m x).numbers (batch_in m x).images)
    × AreOpen (held ++ record { place = m; batch = batch_in m x } ∷ []) c
opened_open x c label blocks m held stands shut within valid are less same opened =
    let greatest = less_than x (batch_in m x).number held are less in (
      gate_opened x c label blocks m stands within same shut opened valid greatest,
      held_opened x c label blocks m stands within same shut opened valid greatest held are less,
    )

pub closed_open : (x c label : List ℕ) (blocks : List (List ℕ)) (h : HeldBatch) (held : List HeldBatch) → StandsFor x label blocks
    → AreOpen (h ∷ held) x → IsCarried x → SameBut (λ k. k ≡ gate_place h.place) x c → is_open h.place c ≡ false
    → StandsFor c label blocks × (IsCarried c × AreOpen held c)
closed_open x c label blocks h held stands are carried same shut =
    let opened : IsOpenIn h.place x = are.each.0.0 in
    let least = first_is_least x h held are in (
      gate_closed_now x c label blocks h.place stands opened.0 same opened.1 shut least carried,
      (
        still_carried x c label blocks h.place stands opened.0 same opened.1 shut least carried,
        held_closed x c label blocks h.place stands opened.0 same opened.1 shut least carried h held refl are,
      ),
    )

-- whichever gate is shut, the other segments stand for something
pub any_shut : (x c label : List ℕ) (blocks : List (List ℕ)) (m : ℕ) → StandsFor x label blocks → m < segment_count x
    → SameBut (λ k. k ≡ gate_place m) x c → is_open m c ≡ false → StandsFor c label (logical_blocks c)
any_shut x c label blocks m stands within same shut = elim (cases_Bool (is_open m x)) [
  | inl opened ↦ valid_shut x c label blocks m stands within same opened shut
  | inr also ↦ let kept = gate_kept x c label blocks m stands within same (shut ∙ sym also) in
      subst (λ (bs : List (List ℕ)). StandsFor c label bs) (sym kept.has_blocks) kept
]
