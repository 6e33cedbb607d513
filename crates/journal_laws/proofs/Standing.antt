-- What an image stands for, by what it has in common with another.
use Rattle.std.proofs.Common.{◌≡◌, ◌⊎◌, inl, inr, ◌<◌, ◌≤◌, drop, length-drop, length-take, ltb, if◌then◌else◌, ℕ, zero, suc, ◌+◌, ◌*◌}
use Rattle.std.proofs.Common.{eqb, Bool, true, false, List, [], ◌∷◌, length, get_or, map, refl, sym, ◌∙◌, ap, subst, arith}
use Rattle.std.specs.List.{All, filter, range_with_len}
use Rattle.std.proofs.lemmas.Bool.{cases_eq, cases_lt}
use Rattle.std.proofs.lemmas.List.{get_or-drop, get_or_past}
use Rattle.std.proofs.lemmas.List.Elements.{All-from_get_or, All-get_or, All-nil}
use Rattle.std.proofs.lemmas.List.FromFn.{length-map-range_with_len}
use Rattle.byteorder.specs.Endian.{little_number}
use Rattle.byteorder.specs.Numbers.{little_from-take}
use Rattle.disk.specs.Image.{Torn, part}
use Rattle.disk.proofs.Images.{get_or-part, part-torn_apart, same_parts}
use Rattle.model.specs.Volume.{AreDistinct, Batch, IsDescriptor, IsSuperblock, StandsFor, all_laid_over, batch_in, block, blocks_from}
use Rattle.model.specs.Volume.{descriptor_place, epoch_in, epoch_of, format_2_at, gate_place, home, home_place, home_size, image_place}
use Rattle.model.specs.Volume.{insert, is_open, label_of, listed, number_at, open_segments, rising, segment_count}
use Rattle.journal_laws.specs.Batches.{AgreeBut, AreFull, HaveNone, IsNoneOf}
use Rattle.journal_laws.specs.Held.{AreHeld, AreOpen, HeldBatch}
use Rattle.journal_laws.specs.Images.{IsHomeOfOpen, IsInside, IsOpenIn, SameBut, open_batches}
use Rattle.journal_laws.proofs.Blocks.{blocks_from_same, get_or-blocks_from, length-blocks_from}
use Rattle.journal_laws.proofs.Laying.{all_same}
use Rattle.journal_laws.proofs.Places.{each_at, each_of, filter_same, map_same}

-- ---- the superblock and the home

pub number_at-part : (at n : ℕ) (octets : List ℕ) → number_at at n octets ≡ little_number n (part at n octets)
unfolding number_at
number_at-part at n octets = sym (little_from-take 0 n n (drop at octets) (omega arith))

module _ (x c : List ℕ) (zeroth : block 0 c ≡ block 0 x) (size : length c ≡ length x) where
  pub count_same : segment_count c ≡ segment_count x
  count_same = ap (number_at 16 4) zeroth

  pub home_size_same : home_size c ≡ home_size x
  home_size_same = ap (number_at 12 4) zeroth

  pub label_same : label_of c ≡ label_of x
  label_same = ap (λ (b : List ℕ). part 20 128 b) zeroth

  pub superblock_same : IsSuperblock (block 0 x) (length x) → IsSuperblock (block 0 c) (length c)
  superblock_same valid = subst (λ (b : List ℕ). IsSuperblock b (length c)) (sym zeroth)
      (subst (λ (n : ℕ). IsSuperblock (block 0 x) n) (sym size) valid)

-- what the superblock says of the rest is the same
pub record IsSameHead (x c : List ℕ) : Type 0 where
  pub count : segment_count c ≡ segment_count x
  pub size : home_size c ≡ home_size x
  pub label : label_of c ≡ label_of x
  pub superblock : IsSuperblock (block 0 x) (length x) → IsSuperblock (block 0 c) (length c)

pub head_same : (x c : List ℕ) → block 0 c ≡ block 0 x → length c ≡ length x → IsSameHead x c
head_same x c zeroth size = record {
  count = count_same x c zeroth size;
  size = home_size_same x c zeroth size;
  label = label_same x c zeroth size;
  superblock = superblock_same x c zeroth size;
}

pub length-home : (x : List ℕ) → length (home x) ≡ home_size x
length-home x = length-blocks_from (home_place (segment_count x) 0) (home_size x) x

at_home : (s k : ℕ) → home_place s 0 + k ≡ home_place s k
at_home s k = omega arith

pub get_or-home : (x : List ℕ) (k : ℕ) → k < home_size x → get_or (home x) k [] ≡ block (home_place (segment_count x) k) x
get_or-home x k within = get_or-blocks_from (home_place (segment_count x) 0) (home_size x) k x within
    ∙ ap (λ (n : ℕ). block n x) (at_home (segment_count x) k)

pub home_same : (x c : List ℕ) → IsSameHead x c
    → ((k : ℕ) → k < home_size x → block (home_place (segment_count x) k) c ≡ block (home_place (segment_count x) k) x) → home c ≡ home x
home_same x c head same =
    ap (λ (s : ℕ). blocks_from (home_place s 0) (home_size c) c) head.count
    ∙ ap (λ (n : ℕ). blocks_from (home_place (segment_count x) 0) n c) head.size
    ∙ blocks_from_same (home_place (segment_count x) 0) (home_place (segment_count x) 0) (home_size x) c x
    (λ k within. ap (λ (n : ℕ). block n c) (at_home (segment_count x) k) ∙ same k within
    ∙ ap (λ (n : ℕ). block n x) (sym (at_home (segment_count x) k)))

-- ---- batches

-- a segment with the same descriptor and images
pub batch_same : (s : ℕ) (x c : List ℕ) → block (descriptor_place s) c ≡ block (descriptor_place s) x
    → ((i : ℕ) → i < number_at 16 4 (block (descriptor_place s) x) → block (image_place s i) c ≡ block (image_place s i) x)
    → batch_in s c ≡ batch_in s x
batch_same s x c descriptor images =
    let count : number_at 16 4 (block (descriptor_place s) c) ≡ number_at 16 4 (block (descriptor_place s) x) =
    ap (number_at 16 4) descriptor in
    let place : (i : ℕ) → image_place s 0 + i ≡ image_place s i = λ i. omega arith in
    let all : blocks_from (image_place s 0) (number_at 16 4 (block (descriptor_place s) c)) c ≡ blocks_from (image_place s 0)
    (number_at 16 4 (block (descriptor_place s) x)) x =
    ap (λ (n : ℕ). blocks_from (image_place s 0) n c) count
    ∙ blocks_from_same (image_place s 0) (image_place s 0) (number_at 16 4 (block (descriptor_place s) x)) c x
    (λ i within. ap (λ (n : ℕ). block n c) (place i) ∙ images i within ∙ ap (λ (n : ℕ). block n x) (sym (place i))) in
    λ j. record {
      number = number_at 0 8 (descriptor j);
      last = number_at 8 8 (descriptor j);
      numbers = listed (descriptor j);
      images = all j;
    }

full_batch : (s : ℕ) (x : List ℕ) → length (batch_in s x).numbers ≤ length (batch_in s x).images
full_batch s x =
    let count = number_at 16 4 (block (descriptor_place s) x) in
    omega (
      arith,
      length-map-range_with_len (λ i. number_at (24 + 4 * i) 4 (block (descriptor_place s) x)) 0 count,
      length-blocks_from (image_place s 0) count x,
    )

full_map : (x : List ℕ) (ss : List ℕ) → AreFull (map (λ s. batch_in s x) ss)
full_map x [] = tt
full_map x (s ∷ ss) = (full_batch s x, full_map x ss)

-- ---- batches in rising number keep what holds of each

full_insert : (b : Batch) (bs : List Batch) → length b.numbers ≤ length b.images → AreFull bs → AreFull (insert b bs)
full_insert b [] one all = (one, tt)
full_insert b (c ∷ bs) one all = go (full_insert b bs one all.1) (ltb c.number b.number)
  where
    go : AreFull (insert b bs) → (t : Bool) → AreFull (if t then c ∷ insert b bs else b ∷ c ∷ bs)
    go rest true = (all.0, rest)
    go rest false = (one, all)

pub full_rising : (bs : List Batch) → AreFull bs → AreFull (rising bs)
full_rising [] all = tt
full_rising (b ∷ bs) all = full_insert b (rising bs) all.0 (full_rising bs all.1)

pub full_open : (x : List ℕ) → AreFull (open_batches x)
full_open x = full_rising (map (λ s. batch_in s x) (open_segments x)) (full_map x (open_segments x))

none_insert : (k : ℕ) (b : Batch) (bs : List Batch) → HaveNone k (insert b bs) → IsNoneOf k b.numbers × HaveNone k bs
none_insert k b [] none = (none.0, tt)
none_insert k b (c ∷ bs) none = go (none_insert k b bs) (ltb c.number b.number) none
  where
    go : (HaveNone k (insert b bs) → IsNoneOf k b.numbers × HaveNone k bs) → (t : Bool)
        → HaveNone k (if t then c ∷ insert b bs else b ∷ c ∷ bs)
        → IsNoneOf k b.numbers × HaveNone k (c ∷ bs)
    go more true has = let rest = more has.1 in (rest.0, (has.0, rest.1))
    go more false has = (has.0, has.1)

none_rising : (k : ℕ) (bs : List Batch) → HaveNone k (rising bs) → HaveNone k bs
none_rising k [] none = tt
none_rising k (b ∷ bs) none = let parts = none_insert k b (rising bs) none in (parts.0, none_rising k bs parts.1)

none_each : (k : ℕ) (x : List ℕ) (ss : List ℕ) → HaveNone k (map (λ s. batch_in s x) ss) → All (λ s. IsNoneOf k (batch_in s x).numbers) ss
none_each k x [] none = Rattle.std.proofs.lemmas.List.Elements.All-nil (λ s. IsNoneOf k (batch_in s x).numbers)
none_each k x (s ∷ ss) none = Rattle.std.proofs.lemmas.List.Elements.All-cons (λ s. IsNoneOf k (batch_in s x).numbers) s ss none.0
    (none_each k x ss none.1)

pub none_open : (k : ℕ) (x : List ℕ) → HaveNone k (open_batches x) → (s : ℕ) → IsOpenIn s x → IsNoneOf k (batch_in s x).numbers
none_open k x none s opened =
    each_at (λ s. IsNoneOf k (batch_in s x).numbers) (λ s. is_open s x) 0 (segment_count x)
    (none_each k x (open_segments x) (none_rising k (map (λ s. batch_in s x) (open_segments x)) none)) s (omega arith)
    (omega (arith, opened.0)) opened.1

-- ---- segments in memory

pub held_same : (x c : List ℕ) (held : List HeldBatch) → ((s : ℕ) → IsOpenIn s x → IsOpenIn s c × (batch_in s c ≡ batch_in s x))
    → AreHeld held x
    → AreHeld held c
held_same x c [] same are = tt
held_same x c (h ∷ held) same are = let s = same h.place are.0.0 in ((s.0, s.1 ∙ are.0.1), held_same x c held same are.1)

-- ---- the same gates, and the same in open segments

pub valid_open : (x label : List ℕ) (blocks : List (List ℕ)) → StandsFor x label blocks → (s : ℕ) → IsOpenIn s x
    → IsDescriptor (home_size x) (block (descriptor_place s) x)
valid_open x label blocks stands s opened =
    each_at (λ s. IsDescriptor (home_size x) (block (descriptor_place s) x)) (λ s. is_open s x) 0 (segment_count x) stands.has_batches s
    (omega arith) (omega (arith, opened.0)) opened.1

module _ (x c label : List ℕ) (blocks : List (List ℕ)) (stands : StandsFor x label blocks) (head : IsSameHead x c)
    (gates : (s : ℕ) → s < segment_count x → is_open s c ≡ is_open s x)
    (inside : (s : ℕ) → IsOpenIn s x → (k : ℕ) → IsInside s k → block k c ≡ block k x) where
  pub open_same : open_segments c ≡ open_segments x
  open_same =
      ap (λ (n : ℕ). filter (λ s. is_open s c) (range_with_len 0 n)) head.count
      ∙ filter_same (λ s. is_open s c) (λ s. is_open s x) 0 (segment_count x) (λ s low high. gates s (omega (arith, high)))

  each_batch : (s : ℕ) → IsOpenIn s x → batch_in s c ≡ batch_in s x
  each_batch s opened =
      let valid = valid_open x label blocks stands s opened in
      batch_same s x c (inside s opened (descriptor_place s) (omega arith, omega arith))
      (λ i within. inside s opened (image_place s i) (omega arith, omega (arith, within, valid.few)))

  map_open : {B : Type 0} (f : Batch → B) → map (λ s. f (batch_in s c)) (open_segments c) ≡ map (λ s. f (batch_in s x)) (open_segments x)
  map_open {B} f =
      ap (λ (ss : List ℕ). map (λ s. f (batch_in s c)) ss) open_same
      ∙ map_same (λ s. is_open s x) (λ s. f (batch_in s c)) (λ s. f (batch_in s x)) 0 (segment_count x)
      (λ s low high is. ap f (each_batch s (omega (arith, high), is)))

  pub batches_same : open_batches c ≡ open_batches x
  batches_same = ap rising (map_open (λ b. b))

  pub are_open_kept : (held : List HeldBatch) → AreOpen held x → AreOpen held c
  are_open_kept held are = record {
    batches = batches_same ∙ are.batches;
    each = held_same x c held (λ s opened. ((omega (arith, opened.0, head.count), gates s opened.0 ∙ opened.1), each_batch s opened))
        are.each;
    all = λ s opened. let there : s < segment_count x = omega (arith, opened.0, head.count) in
        are.all s (there, sym (gates s there) ∙ opened.1);
    rise = are.rise;
  }

  -- whatever the home
  pub stands_over : StandsFor c label (all_laid_over (home c) (open_batches x))
  stands_over = record {
    has_superblock = head.superblock stands.has_superblock;
    has_label = head.label ∙ stands.has_label;
    has_batches =
        subst (λ (ss : List ℕ). All (λ s. IsDescriptor (home_size c) (block (descriptor_place s) c)) ss) (sym open_same)
        (each_of (λ s. IsDescriptor (home_size c) (block (descriptor_place s) c)) (λ s. is_open s x) 0 (segment_count x)
        (λ s low high is.
        let opened : IsOpenIn s x = (omega (arith, high), is) in
        subst (λ (n : ℕ). IsDescriptor n (block (descriptor_place s) c)) (sym head.size)
        (subst (λ (b : List ℕ). IsDescriptor (home_size x) b) (sym (inside s opened (descriptor_place s) (omega arith, omega arith)))
        (valid_open x label blocks stands s opened))));
    has_order = subst (λ (ns : List ℕ). AreDistinct ns) (sym (map_open (λ b. b.number))) stands.has_order;
    has_blocks = ap (all_laid_over (home c)) batches_same;
  }

-- a gate, by its block
pub gate_same : (s : ℕ) (x c : List ℕ) → epoch_of c ≡ epoch_of x → block (gate_place s) c ≡ block (gate_place s) x
    → is_open s c ≡ is_open s x
gate_same s x c epoch same =
    ap (λ (b : List ℕ). eqb (get_or b 0 0) (epoch_of c)) same ∙ ap (λ (e : ℕ). eqb (get_or (block (gate_place s) x) 0 0) e) epoch

-- ---- rows

-- a closed segment isn't read
module _ (x c label : List ℕ) (blocks : List (List ℕ)) (m : ℕ) (stands : StandsFor x label blocks) (shut : is_open m x ≡ false)
    (within : m < segment_count x) (same : SameBut (IsInside m) x c) where
  unread_zeroth : block 0 c ≡ block 0 x
  unread_zeroth = same.same 0 (λ e. absurd (omega (arith, e.0)))

  unread_gates : (s : ℕ) → s < segment_count x → is_open s c ≡ is_open s x
  unread_gates s there = gate_same s x c (ap epoch_in unread_zeroth) (same.same (gate_place s) (λ e. absurd (omega (arith, e.0, e.1))))

  unread_apart : (s k : ℕ) → IsOpenIn s x → IsInside s k → IsInside m k → ⊥
  unread_apart s k opened here e = elim (cases_eq s m) [
    | inl is ↦ let both : true ≡ false = sym opened.1 ∙ ap (λ (n : ℕ). is_open n x) is ∙ shut in cc
    | inr other ↦ absurd (omega (arith, here.0, here.1, e.0, e.1, other))
  ]

  unread_inside : (s : ℕ) → IsOpenIn s x → (k : ℕ) → IsInside s k → block k c ≡ block k x
  unread_inside s opened k here = same.same k (λ e. absurd (unread_apart s k opened here e))

  pub unread_home : home c ≡ home x
  unread_home = home_same x c (head_same x c unread_zeroth same.size)
      (λ k low. same.same (home_place (segment_count x) k) (λ e. absurd (omega (arith, e.1, within))))

  pub unread : StandsFor c label blocks
  unread =
      subst (λ (bs : List (List ℕ)). StandsFor c label bs) (ap (λ (h : List (List ℕ)). all_laid_over h (open_batches x)) unread_home
      ∙ stands.has_blocks)
      (stands_over x c label blocks stands (head_same x c unread_zeroth same.size) unread_gates unread_inside)

  pub unread_open : (held : List HeldBatch) → AreOpen held x → AreOpen held c
  unread_open = are_open_kept x c label blocks stands (head_same x c unread_zeroth same.size) unread_gates unread_inside

-- torn homes of blocks of which an open segment has an image
module _ (x c label : List ℕ) (blocks : List (List ℕ)) (stands : StandsFor x label blocks) (same : SameBut (IsHomeOfOpen x) x c) where
  -- blocks before the home
  torn_low : (k : ℕ) → k < home_place (segment_count x) 0 → block k c ≡ block k x
  torn_low k before_home = same.same k (λ e. absurd (omega (arith, e.2.2, before_home)))

  torn_zeroth : block 0 c ≡ block 0 x
  torn_zeroth = torn_low 0 (omega arith)

  torn_gates : (s : ℕ) → s < segment_count x → is_open s c ≡ is_open s x
  torn_gates s there = gate_same s x c (ap epoch_in torn_zeroth) (torn_low (gate_place s) (omega (arith, there)))

  torn_inside : (s : ℕ) → IsOpenIn s x → (k : ℕ) → IsInside s k → block k c ≡ block k x
  torn_inside s opened k here = torn_low k (omega (arith, here.1, opened.0))

  torn_agree : AgreeBut (open_batches x) (home x) (home c)
  torn_agree = record {
    size = length-home c ∙ home_size_same x c torn_zeroth same.size ∙ sym (length-home x);
    same = λ k none. elim (cases_lt k (home_size x)) [
      | inl within ↦
          get_or-home c k (omega (arith, within, home_size_same x c torn_zeroth same.size))
          ∙ ap (λ (s : ℕ). block (home_place s k) c) (count_same x c torn_zeroth same.size)
          ∙ same.same (home_place (segment_count x) k) (λ e. none_open k x none e.0 e.1 e.2.0 e.2.1 (omega (arith, e.2.2)))
          ∙ sym (get_or-home x k within)
      | inr past ↦
          get_or_past (home c) k [] (omega (arith, length-home c, home_size_same x c torn_zeroth same.size, past))
          ∙ sym (get_or_past (home x) k [] (omega (arith, length-home x, past)))
    ];
  }

  pub torn : StandsFor c label blocks
  torn =
      subst (λ (bs : List (List ℕ)). StandsFor c label bs) (all_same (open_batches x) (home x) (home c) (full_open x) torn_agree
      ∙ stands.has_blocks)
      (stands_over x c label blocks stands (head_same x c torn_zeroth same.size) torn_gates torn_inside)

  pub torn_open : (held : List HeldBatch) → AreOpen held x → AreOpen held c
  torn_open = are_open_kept x c label blocks stands (head_same x c torn_zeroth same.size) torn_gates torn_inside

-- ---- the octets of the superblock behind the label

-- a write to some of them leaves the rest of the superblock, and the other blocks
module _ (x c : List ℕ) (at n : ℕ) (behind : 148 ≤ at) (used : at + n ≤ 151) (tears : Torn at n x c) where
  zeroth_size : length (block 0 c) ≡ length (block 0 x)
  zeroth_size = omega (arith, length-take 4096 (drop 0 c), length-take 4096 (drop 0 x), length-drop 0 c, length-drop 0 x, tears.size)

  pub octet_kept : (k : ℕ) → (k < at) ⊎ (at + n ≤ k) → k < 4096 → get_or (block 0 c) k 0 ≡ get_or (block 0 x) k 0
  octet_kept k other within =
      let from_c : get_or (block 0 c) k 0 ≡ get_or c (0 + k) 0 = get_or-part 0 4096 c k 0 within in
      let from_x : get_or (block 0 x) k 0 ≡ get_or x (0 + k) 0 = get_or-part 0 4096 x k 0 within in
      from_c ∙ elim other [
        | inl low ↦ tears.below (0 + k) (omega (arith, low))
        | inr high ↦ tears.above (0 + k) (omega (arith, high))
      ] ∙ sym from_x

  part_kept : (from count : ℕ) → from + count ≤ 148 → part from count (block 0 c) ≡ part from count (block 0 x)
  part_kept from count low = same_parts 0 from count (block 0 x) (block 0 c) zeroth_size
      (λ k first last. octet_kept k (inl (omega (arith, last, low, behind))) (omega (arith, last, low)))

  number_kept : (from count : ℕ) → from + count ≤ 148 → number_at from count (block 0 c) ≡ number_at from count (block 0 x)
  number_kept from count low =
      number_at-part from count (block 0 c) ∙ ap (λ (ys : List ℕ). little_number count ys) (part_kept from count low)
      ∙ sym (number_at-part from count (block 0 x))

  zeros_kept : All (λ o. o ≡ 0) (drop 151 (block 0 x)) → All (λ o. o ≡ 0) (drop 151 (block 0 c))
  zeros_kept zeros = All-from_get_or (λ o. o ≡ 0) (drop 151 (block 0 c)) 0 each where
    each : (k : ℕ) → k < length (drop 151 (block 0 c)) → get_or (drop 151 (block 0 c)) k 0 ≡ 0
    each k within =
        let few : 151 + k < 4096 = omega (arith, within, length-drop 151 (block 0 c), length-take 4096 (drop 0 c)) in
        let there : k < length (drop 151 (block 0 x)) =
        omega (arith, within, length-drop 151 (block 0 c), length-drop 151 (block 0 x), zeroth_size) in
        get_or-drop 151 (block 0 c) k 0 ∙ octet_kept (151 + k) (inr (omega (arith, used))) few
        ∙ sym (get_or-drop 151 (block 0 x) k 0) ∙ All-get_or (λ o. o ≡ 0) (drop 151 (block 0 x)) k 0 there zeros

  superblock_kept : IsSuperblock (block 0 x) (length x) → IsSuperblock (block 0 c) (length c)
  superblock_kept valid =
      let blocks_are = number_kept 12 4 (omega arith) in
      let segments_are = number_kept 16 4 (omega arith) in
      record {
        begins = part_kept 0 8 (omega arith) ∙ valid.begins;
        version_is = number_kept 8 4 (omega arith) ∙ valid.version_is;
        low = omega (arith, valid.low, blocks_are);
        high = omega (arith, valid.high, blocks_are);
        segments = subst (λ (n : ℕ). (n ≡ 1) ⊎ (n ≡ 8)) (sym segments_are) valid.segments;
        zeros = zeros_kept valid.zeros;
        exactly = omega (arith, valid.exactly, blocks_are, segments_are, tears.size);
      }

  pub head_kept : IsSameHead x c
  head_kept = record {
    count = number_kept 16 4 (omega arith);
    size = number_kept 12 4 (omega arith);
    label = part_kept 20 128 (omega arith);
    superblock = superblock_kept;
  }

  pub block_kept : (k : ℕ) → 0 < k → block k c ≡ block k x
  block_kept k some = part-torn_apart at n x c tears (4096 * k) 4096 (inr (omega (arith, some, used)))

  pub home_kept : home c ≡ home x
  home_kept = home_same x c head_kept (λ k low. block_kept (home_place (segment_count x) k) (omega arith))

  -- with the same epoch, the same segments are open
  module _ (label : List ℕ) (blocks : List (List ℕ)) (stands : StandsFor x label blocks) (epoch : epoch_of c ≡ epoch_of x) where
    gates_kept : (s : ℕ) → s < segment_count x → is_open s c ≡ is_open s x
    gates_kept s there = gate_same s x c epoch (block_kept (gate_place s) (omega arith))

    inside_kept : (s : ℕ) → IsOpenIn s x → (k : ℕ) → IsInside s k → block k c ≡ block k x
    inside_kept s opened k here = block_kept k (omega (arith, here.0))

    pub same_epoch : StandsFor c label blocks
    same_epoch =
        subst (λ (bs : List (List ℕ)). StandsFor c label bs) (ap (λ (h : List (List ℕ)). all_laid_over h (open_batches x)) home_kept
        ∙ stands.has_blocks)
        (stands_over x c label blocks stands head_kept gates_kept inside_kept)

    pub same_epoch_open : (held : List HeldBatch) → AreOpen held x → AreOpen held c
    same_epoch_open = are_open_kept x c label blocks stands head_kept gates_kept inside_kept

-- the gates of the format are not read
module _ (x c label : List ℕ) (blocks : List (List ℕ)) (stands : StandsFor x label blocks) (tears : Torn format_2_at 2 x c) where
  format_epoch : epoch_of c ≡ epoch_of x
  format_epoch = ap (λ (octet : ℕ). if eqb octet 2 then 2 else 1)
      (octet_kept x c 148 2 (omega arith) (omega arith) tears 150 (inr (omega arith)) (omega arith))

  pub format_unread : StandsFor c label blocks
  format_unread = same_epoch x c 148 2 (omega arith) (omega arith) tears label blocks stands format_epoch

  pub format_open : (held : List HeldBatch) → AreOpen held x → AreOpen held c
  format_open = same_epoch_open x c 148 2 (omega arith) (omega arith) tears label blocks stands format_epoch

-- ---- no open segment

filter_none : (a n : ℕ) → filter (λ s. false) (range_with_len a n) ≡ []
filter_none a zero = refl
filter_none a (suc n) = filter_none (a + 1) n

pub none_are_open : (x : List ℕ) → ((s : ℕ) → s < segment_count x → is_open s x ≡ false) → open_segments x ≡ []
none_are_open x shut = filter_same (λ s. is_open s x) (λ s. false) 0 (segment_count x) (λ s low high. shut s (omega (arith, high)))
    ∙ filter_none 0 (segment_count x)

-- then the logical blocks are the home
pub stands_bare : (x : List ℕ) → IsSuperblock (block 0 x) (length x) → open_segments x ≡ [] → StandsFor x (label_of x) (home x)
stands_bare x superblock none = record {
  has_superblock = superblock;
  has_label = refl;
  has_batches = subst (λ (ss : List ℕ). All (λ s. IsDescriptor (home_size x) (block (descriptor_place s) x)) ss) (sym none)
      (All-nil (λ s. IsDescriptor (home_size x) (block (descriptor_place s) x)));
  has_order = subst (λ (ss : List ℕ). AreDistinct (map (λ s. (batch_in s x).number) ss)) (sym none)
      (λ i j low within. absurd (omega arith));
  has_blocks = ap (λ (ss : List ℕ). all_laid_over (home x) (rising (map (λ s. batch_in s x) ss))) none;
}
