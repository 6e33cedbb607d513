-- Whether a volume stands in an image, segment by segment.
use Rattle.std.proofs.Common.{◌≡◌, ◌≢◌, inl, inr, ◌<◌, ◌≤◌, ltb, if◌then◌else◌, ℕ, zero, suc, ◌+◌, cond, Bool, true, false, List, [], ◌∷◌}
use Rattle.std.proofs.Common.{length, map, refl, sym, ◌∙◌, ap, arith}
use Rattle.std.specs.List.{Contains, filter, range_with_len}
use Rattle.model.specs.Volume.{AreDistinct, Batch, IsDescriptor, IsSuperblock, StandsFor, batch_in, block, descriptor_place}
use Rattle.model.specs.Volume.{home_size, is_open, label_of, logical_blocks, segment_count}
use Rattle.model.proofs.Distinct.{absent_cons, distinct_cons, distinct_none}
use Rattle.journal_laws.specs.Held.{AreHeld, AreRising, HaveMore, HeldBatch, IsAmong, held_in, insert_held, sorted_held}
use Rattle.journal_laws.specs.Images.{IsOpenIn}
use Rattle.journal_laws.proofs.Places.{each_of}
use Rattle.journal_laws.proofs.Sorting.{all_found, each_found, found_open}

-- ---- two open segments of a volume have different numbers

number_is : (x : List ℕ) (h : HeldBatch) (s : ℕ) → batch_in h.place x ≡ h.batch → s ≡ h.place → (batch_in s x).number ≡ h.batch.number
number_is x h s its is = ap (λ (n : ℕ). (batch_in n x).number) is ∙ ap (λ (b : Batch). b.number) its

more_among : (x : List ℕ) (n s : ℕ) (held : List HeldBatch) → AreHeld held x → HaveMore n held → IsAmong s held → n < (batch_in s x).number
more_among x n s [] each more among = absurd among
more_among x n s (h ∷ held) each more (inl is) = omega (arith, more.0, number_is x h s each.0.1 is)
more_among x n s (h ∷ held) each more (inr rest) = more_among x n s held each.1 more.1 rest

apart_among : (x : List ℕ) (s t : ℕ) (held : List HeldBatch) → AreHeld held x → AreRising held → s ≢ t → IsAmong s held → IsAmong t held
    → (batch_in s x).number ≢ (batch_in t x).number
apart_among x s t [] each rise other among also e = absurd among
apart_among x s t (h ∷ held) each rise other (inl is) (inl also) e = absurd (other (is ∙ sym also))
apart_among x s t (h ∷ held) each rise other (inl is) (inr also) e =
    absurd (omega (arith, e, number_is x h s each.0.1 is, more_among x h.batch.number t held each.1 rise.0 also))
apart_among x s t (h ∷ held) each rise other (inr rest) (inl also) e =
    absurd (omega (arith, e, number_is x h t each.0.1 also, more_among x h.batch.number s held each.1 rise.0 rest))
apart_among x s t (h ∷ held) each rise other (inr rest) (inr also) e = apart_among x s t held each.1 rise.1 other rest also e

pub apart : (x label : List ℕ) (blocks : List (List ℕ)) (s t : ℕ) → StandsFor x label blocks → IsOpenIn s x → IsOpenIn t x → s ≢ t
    → (batch_in s x).number ≢ (batch_in t x).number
apart x label blocks s t stands opened also other =
    let are = found_open x label blocks stands in
    apart_among x s t (held_in x) are.each are.rise other (are.all s opened) (are.all t also)

-- ---- and that, with valid descriptors, is all

-- numbers of what passes a test on a range
not_in_range : (p : ℕ → Bool) (f : ℕ → ℕ) (m a n : ℕ) → ((s : ℕ) → a ≤ s → s < a + n → p s ≡ true → m ≢ f s)
    → ¬ (Contains (map f (filter p (range_with_len a n))) m)
not_in_range p f m a zero other = λ has. absurd (omega (arith, has.1))
not_in_range p f m a (suc n) other =
    go (not_in_range p f m (a + 1) n (λ s low high is. other s (omega (arith, low)) (omega (arith, high)) is)) (p a) refl
  where
    go : ¬ (Contains (map f (filter p (range_with_len (a + 1) n))) m) → (b : Bool) → p a ≡ b
        → ¬ (Contains (map f (cond b (a ∷ filter p (range_with_len (a + 1) n)) (filter p (range_with_len (a + 1) n)))) m)
    go rest true is =
        absent_cons m (f a) (map f (filter p (range_with_len (a + 1) n))) (other a (omega arith) (omega arith) is) rest
    go rest false is = rest

distinct_in_range : (p : ℕ → Bool) (f : ℕ → ℕ) (a n : ℕ)
    → ((s t : ℕ) → a ≤ s → s < a + n → p s ≡ true → a ≤ t → t < a + n → p t ≡ true → s ≢ t → f s ≢ f t)
    → AreDistinct (map f (filter p (range_with_len a n)))
distinct_in_range p f a zero apart = distinct_none
distinct_in_range p f a (suc n) apart =
    go (distinct_in_range p f (a + 1) n
    (λ s t low high is more less also. apart s t (omega (arith, low)) (omega (arith, high)) is (omega (arith, more))
    (omega (arith, less)) also)) (p a) refl
  where
    go : AreDistinct (map f (filter p (range_with_len (a + 1) n))) → (b : Bool) → p a ≡ b
        → AreDistinct (map f (cond b (a ∷ filter p (range_with_len (a + 1) n)) (filter p (range_with_len (a + 1) n))))
    go rest true is =
        distinct_cons (f a) (map f (filter p (range_with_len (a + 1) n)))
        (not_in_range p f (f a) (a + 1) n
        (λ s low high also. apart a s (omega arith) (omega arith) is (omega (arith, low)) (omega (arith, high)) also
        (λ e. absurd (omega (arith, e, low)))))
        rest
    go rest false is = rest

pub stands_where : (x : List ℕ) → IsSuperblock (block 0 x) (length x)
    → ((s : ℕ) → IsOpenIn s x → IsDescriptor (home_size x) (block (descriptor_place s) x))
    → ((s t : ℕ) → IsOpenIn s x → IsOpenIn t x → s ≢ t → (batch_in s x).number ≢ (batch_in t x).number)
    → StandsFor x (label_of x) (logical_blocks x)
stands_where x superblock valid apart = record {
  has_superblock = superblock;
  has_label = refl;
  has_batches = each_of (λ s. IsDescriptor (home_size x) (block (descriptor_place s) x)) (λ s. is_open s x) 0 (segment_count x)
      (λ s low high is. valid s (omega (arith, high), is));
  has_order =
      distinct_in_range (λ s. is_open s x) (λ s. (batch_in s x).number) 0 (segment_count x)
      (λ s t low high is more less also other. apart s t (omega (arith, high), is) (omega (arith, less), also) other);
  has_blocks = refl;
}

-- or that their numbers rise once they are sorted
pub stands_rising : (x : List ℕ) → IsSuperblock (block 0 x) (length x)
    → ((s : ℕ) → IsOpenIn s x → IsDescriptor (home_size x) (block (descriptor_place s) x)) → AreRising (held_in x)
    → StandsFor x (label_of x) (logical_blocks x)
stands_rising x superblock valid rise =
    stands_where x superblock valid (λ s t opened also other. apart_among x s t (held_in x) (each_found x) rise other (all_found x s opened)
    (all_found x t also))

-- ---- how many images they have

-- so many writes carry these home
abbrev pub writes_of : List HeldBatch → ℕ
writes_of [] = 0
writes_of (h ∷ held) = length h.batch.numbers + 1 + writes_of held

writes_insert : (h : HeldBatch) (held : List HeldBatch) → writes_of (insert_held h held) ≡ length h.batch.numbers + 1 + writes_of held
writes_insert h [] = refl
writes_insert h (g ∷ held) = go (writes_insert h held) (ltb g.batch.number h.batch.number)
  where
    go : writes_of (insert_held h held) ≡ length h.batch.numbers + 1 + writes_of held → (t : Bool)
        → writes_of (if t then g ∷ insert_held h held else h ∷ g ∷ held) ≡ length h.batch.numbers + 1 +
        (length g.batch.numbers + 1 + writes_of held)
    go rest true = omega (arith, rest)
    go rest false = refl

pub writes_sorted : (held : List HeldBatch) → writes_of (sorted_held held) ≡ writes_of held
writes_sorted [] = refl
writes_sorted (h ∷ held) = omega (arith, writes_insert h (sorted_held held), writes_sorted held)

length-insert : (h : HeldBatch) (held : List HeldBatch) → length (insert_held h held) ≡ suc (length held)
length-insert h [] = refl
length-insert h (g ∷ held) = go (length-insert h held) (ltb g.batch.number h.batch.number)
  where
    go : length (insert_held h held) ≡ suc (length held) → (t : Bool)
        → length (if t then g ∷ insert_held h held else h ∷ g ∷ held) ≡ suc (suc (length held))
    go rest true = ap suc rest
    go rest false = refl

pub length-sorted : (held : List HeldBatch) → length (sorted_held held) ≡ length held
length-sorted [] = refl
length-sorted (h ∷ held) = length-insert h (sorted_held held) ∙ ap suc (length-sorted held)
