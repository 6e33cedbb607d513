-- The open segments of an image, sorted by number.
use Rattle.std.proofs.Common.{◌≡◌, ◌≢◌, ◌⊎◌, inl, inr, ◌<◌, ◌≤◌, ltb, if◌then◌else◌, ℕ, zero, suc, ◌+◌, cond, Bool, true, false, List, []}
use Rattle.std.proofs.Common.{◌∷◌, map, refl, sym, ◌∙◌, ap, subst, arith}
use Rattle.std.specs.List.{All, Contains, filter, range_with_len}
use Rattle.std.proofs.lemmas.Bool.{cases_eq, cases_lt, lt-ltb, le-ltb}
use Rattle.std.proofs.lemmas.List.Elements.{All-head, All-tail}
use Rattle.model.specs.Volume.{AreDistinct, Batch, StandsFor, batch_in, insert, is_open, open_segments, rising, segment_count}
use Rattle.model.proofs.Distinct.{distinct_head, distinct_tail}
use Rattle.journal_laws.specs.Held.{AreHeld, AreOpen, AreRising, HaveMore, HeldBatch, IsAmong, batches_of, held_at, held_in, insert_held}
use Rattle.journal_laws.specs.Held.{sorted_held}
use Rattle.journal_laws.specs.Images.{IsOpenIn}
use Rattle.journal_laws.proofs.Places.{each_of}

-- their batches are sorted alike
batches_insert : (h : HeldBatch) (held : List HeldBatch) → batches_of (insert_held h held) ≡ insert h.batch (batches_of held)
batches_insert h [] = refl
batches_insert h (g ∷ held) = go (batches_insert h held) (ltb g.batch.number h.batch.number)
  where
    go : batches_of (insert_held h held) ≡ insert h.batch (batches_of held) → (t : Bool)
        → batches_of (if t then g ∷ insert_held h held else h ∷ g ∷ held)
        ≡ (if t then g.batch ∷ insert h.batch (batches_of held) else h.batch ∷ g.batch ∷ batches_of held)
    go rest true = ap (λ (bs : List Batch). g.batch ∷ bs) rest
    go rest false = refl

batches_sorted : (held : List HeldBatch) → batches_of (sorted_held held) ≡ rising (batches_of held)
batches_sorted [] = refl
batches_sorted (h ∷ held) = batches_insert h (sorted_held held) ∙ ap (insert h.batch) (batches_sorted held)

batches_at : (x ss : List ℕ) → batches_of (held_at x ss) ≡ map (λ s. batch_in s x) ss
batches_at x [] = refl
batches_at x (s ∷ ss) = ap (λ (bs : List Batch). batch_in s x ∷ bs) (batches_at x ss)

-- each is open still
insert_each : (x : List ℕ) (h : HeldBatch) (held : List HeldBatch) → IsOpenIn h.place x × (batch_in h.place x ≡ h.batch) → AreHeld held x
    → AreHeld (insert_held h held) x
insert_each x h [] one each = (one, tt)
insert_each x h (g ∷ held) one each = go (insert_each x h held one each.1) (ltb g.batch.number h.batch.number)
  where
    go : AreHeld (insert_held h held) x → (t : Bool) → AreHeld (if t then g ∷ insert_held h held else h ∷ g ∷ held) x
    go rest true = (each.0, rest)
    go rest false = (one, each)

sorted_each : (x : List ℕ) (held : List HeldBatch) → AreHeld held x → AreHeld (sorted_held held) x
sorted_each x [] each = tt
sorted_each x (h ∷ held) each = insert_each x h (sorted_held held) each.0 (sorted_each x held each.1)

each_at_places : (x ss : List ℕ) → All (λ s. IsOpenIn s x) ss → AreHeld (held_at x ss) x
each_at_places x [] all = tt
each_at_places x (s ∷ ss) all = ((All-head (λ s. IsOpenIn s x) s ss all, refl), each_at_places x ss (All-tail (λ s. IsOpenIn s x) s ss all))

-- and each place is there still
insert_among : (s : ℕ) (h : HeldBatch) (held : List HeldBatch) → (s ≡ h.place) ⊎ IsAmong s held → IsAmong s (insert_held h held)
insert_among s h [] (inl is) = inl is
insert_among s h [] (inr among) = absurd among
insert_among s h (g ∷ held) among = go (insert_among s h held) among (ltb g.batch.number h.batch.number)
  where
    go : ((s ≡ h.place) ⊎ IsAmong s held → IsAmong s (insert_held h held)) → (s ≡ h.place) ⊎ ((s ≡ g.place) ⊎ IsAmong s held) → (t : Bool)
        → IsAmong s (if t then g ∷ insert_held h held else h ∷ g ∷ held)
    go more (inl is) true = inr (more (inl is))
    go more (inr (inl is)) true = inl is
    go more (inr (inr rest)) true = inr (more (inr rest))
    go more among false = among

sorted_among : (s : ℕ) (held : List HeldBatch) → IsAmong s held → IsAmong s (sorted_held held)
sorted_among s [] among = absurd among
sorted_among s (h ∷ held) (inl is) = insert_among s h (sorted_held held) (inl is)
sorted_among s (h ∷ held) (inr rest) = insert_among s h (sorted_held held) (inr (sorted_among s held rest))

among_places : (x : List ℕ) (f : ℕ → Bool) (a n s : ℕ) → a ≤ s → s < a + n → f s ≡ true
    → IsAmong s (held_at x (filter f (range_with_len a n)))
among_places x f a zero s low high is = absurd (omega (arith, low, high))
among_places x f a (suc n) s low high is =
    go (λ other. among_places x f (a + 1) n s (omega (arith, low, other)) (omega (arith, high)) is) (f a) refl (cases_eq s a)
  where
    go : (s ≢ a → IsAmong s (held_at x (filter f (range_with_len (a + 1) n)))) → (b : Bool) → f a ≡ b → (s ≡ a) ⊎ (s ≡ a → ⊥)
        → IsAmong s (held_at x (cond b (a ∷ filter f (range_with_len (a + 1) n)) (filter f (range_with_len (a + 1) n))))
    go rest true was (inl here) = inl here
    go rest true was (inr other) = inr (rest other)
    go rest false was (inl here) = absurd (let both : true ≡ false = sym is ∙ ap f here ∙ was in cc)
    go rest false was (inr other) = rest other

-- their numbers rise, where no number stands twice
abbrev pub HaveOther : ℕ → List HeldBatch → Type 0
HaveOther n [] = Unit {0}
HaveOther n (h ∷ held) = (n ≢ h.batch.number) × HaveOther n held

abbrev OnceHeld : List HeldBatch → Type 0
OnceHeld [] = Unit {0}
OnceHeld (h ∷ held) = HaveOther h.batch.number held × OnceHeld held

insert_other : (n : ℕ) (h : HeldBatch) (held : List HeldBatch) → n ≢ h.batch.number → HaveOther n held → HaveOther n (insert_held h held)
insert_other n h [] one other = (one, tt)
insert_other n h (g ∷ held) one other = go (insert_other n h held one other.1) (ltb g.batch.number h.batch.number)
  where
    go : HaveOther n (insert_held h held) → (t : Bool) → HaveOther n (if t then g ∷ insert_held h held else h ∷ g ∷ held)
    go rest true = (other.0, rest)
    go rest false = (one, other)

sorted_other : (n : ℕ) (held : List HeldBatch) → HaveOther n held → HaveOther n (sorted_held held)
sorted_other n [] other = tt
sorted_other n (h ∷ held) other = insert_other n h (sorted_held held) other.0 (sorted_other n held other.1)

insert_more : (n : ℕ) (h : HeldBatch) (held : List HeldBatch) → n < h.batch.number → HaveMore n held → HaveMore n (insert_held h held)
insert_more n h [] one more = (one, tt)
insert_more n h (g ∷ held) one more = go (insert_more n h held one more.1) (ltb g.batch.number h.batch.number)
  where
    go : HaveMore n (insert_held h held) → (t : Bool) → HaveMore n (if t then g ∷ insert_held h held else h ∷ g ∷ held)
    go rest true = (more.0, rest)
    go rest false = (one, more)

more_than_less : (n m : ℕ) (held : List HeldBatch) → n < m → HaveMore m held → HaveMore n held
more_than_less n m [] less more = tt
more_than_less n m (h ∷ held) less more = (omega (arith, less, more.0), more_than_less n m held less more.1)

pub insert_rising : (h : HeldBatch) (held : List HeldBatch) → HaveOther h.batch.number held → AreRising held
    → AreRising (insert_held h held)
insert_rising h [] other rise = (tt, tt)
insert_rising h (g ∷ held) other rise = elim (cases_lt g.batch.number h.batch.number) [
  | inl less ↦
      subst (λ (t : Bool). AreRising (if t then g ∷ insert_held h held else h ∷ g ∷ held)) (sym (lt-ltb g.batch.number h.batch.number less))
      (insert_more g.batch.number h held less rise.0, insert_rising h held other.1 rise.1)
  | inr least ↦
      let less : h.batch.number < g.batch.number = omega (arith, least, other.0) in
      subst (λ (t : Bool). AreRising (if t then g ∷ insert_held h held else h ∷ g ∷ held))
      (sym (le-ltb g.batch.number h.batch.number least))
      ((less, more_than_less h.batch.number g.batch.number held less rise.0), rise)
]

sorted_rising : (held : List HeldBatch) → OnceHeld held → AreRising (sorted_held held)
sorted_rising [] once = tt
sorted_rising (h ∷ held) once = insert_rising h (sorted_held held) (sorted_other h.batch.number held once.0) (sorted_rising held once.1)

other_at : (x : List ℕ) (n : ℕ) (ss : List ℕ) → ¬ (Contains (map (λ s. (batch_in s x).number) ss) n) → HaveOther n (held_at x ss)
other_at x n [] none = tt
other_at x n (s ∷ ss) none = (
  (λ e. none (0, omega arith, sym e)),
  other_at x n ss (λ has. none (suc has.0, omega (arith, has.1), has.2)),
)

once_at : (x : List ℕ) (ss : List ℕ) → AreDistinct (map (λ s. (batch_in s x).number) ss) → OnceHeld (held_at x ss)
once_at x [] distinct = tt
once_at x (s ∷ ss) distinct = (
  other_at x (batch_in s x).number ss (distinct_head (batch_in s x).number (map (λ s. (batch_in s x).number) ss) distinct),
  once_at x ss (distinct_tail (batch_in s x).number (map (λ s. (batch_in s x).number) ss) distinct),
)

-- those of an image are open, and they are all
pub each_found : (x : List ℕ) → AreHeld (held_in x) x
each_found x = sorted_each x (held_at x (open_segments x))
    (each_at_places x (open_segments x)
    (each_of (λ s. IsOpenIn s x) (λ s. is_open s x) 0 (segment_count x) (λ s low high is. (omega (arith, high), is))))

pub all_found : (x : List ℕ) (s : ℕ) → IsOpenIn s x → IsAmong s (held_in x)
all_found x s opened = sorted_among s (held_at x (open_segments x))
    (among_places x (λ s. is_open s x) 0 (segment_count x) s (omega arith) (omega (arith, opened.0)) opened.1)

pub found_open : (x label : List ℕ) (blocks : List (List ℕ)) → StandsFor x label blocks → AreOpen (held_in x) x
found_open x label blocks stands = record {
  batches = sym (batches_sorted (held_at x (open_segments x)) ∙ ap rising (batches_at x (open_segments x)));
  each = each_found x;
  all = all_found x;
  rise = sorted_rising (held_at x (open_segments x))
      (once_at x (open_segments x) stands.has_order);
}
