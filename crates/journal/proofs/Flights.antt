-- The segments of a batch in flight, one by one.
use Rattle.std.proofs.Common.{◌≡◌, ◌≢◌, inl, inr, ◌<◌, ◌≤◌, ℕ, zero, suc, ◌+◌, Bool, true, false, cond, eqb, List, [], ◌∷◌, ◌++◌, length}
use Rattle.std.proofs.Common.{get_or, map, take, refl, sym, ◌∙◌, ap, subst, arith}
use Rattle.std.proofs.lemmas.Bool.{cases_Bool, cond_both, eqb-true, eqb-false, true≢false}
use Rattle.std.proofs.lemmas.List.{get_or-map, get_or-take, length-append, length-map, length-take-le, map_more}
use Rattle.journal_laws.specs.Held.{HaveLess, HeldBatch}
use Rattle.journal_segments.specs.Staged.{IsSound, IsStaged, Staged, held_as, none_staged, staged_at}
use Rattle.journal.specs.Flight.{Flight, all_of, are_all, carried_of, flight_in, held_at, none_carried, none_held, sizes_of}
use Rattle.journal.specs.Inside.{IsWithin}
use Rattle.model.specs.Volume.{number_at}
use Rattle.journal.specs.Order.{Carried, answer, closings, following}
use Rattle.journal.specs.declared.Progress.{Progress}
use Rattle.journal.specs.declared.Next.{Next}
use Rattle.journal.specs.declared.Next.TheVariants.{Idle, Image, Seal, Commit, Home, Settle, Close, Finish}

-- ---- the call after each of those that are counted

positive : (k : ℕ) → k ≢ 0 → 0 < k
positive zero other = absurd (other refl)
positive (suc k) other = omega arith

pub after_image : (P : Next → Type 0) (n : ℕ) (carried : Carried) (i : ℕ) → (i + 1 ≡ n → P Seal) → (i + 1 ≢ n → P (Image (i + 1)))
    → P (following n carried (Image i))
after_image P n carried i last more =
    cond_both (eqb (i + 1) n) Seal (Image (i + 1)) P (λ e. last (eqb-true (i + 1) n e)) (λ e. more (eqb-false (i + 1) n e))

pub after_commit : (P : Next → Type 0) (n : ℕ) (carried : Carried) → (length carried.counts ≡ 0 → P Idle)
    → (0 < length carried.counts → P (Home 0 0))
    → P (following n carried Commit)
after_commit P n carried none some =
    cond_both (eqb (length carried.counts) 0) Idle (Home 0 0) P (λ e. none (eqb-true (length carried.counts) 0 e))
    (λ e. some (let other = eqb-false (length carried.counts) 0 e in positive (length carried.counts) other))

pub after_home : (P : Next → Type 0) (n : ℕ) (carried : Carried) (j i : ℕ)
    → (i + 1 ≡ get_or carried.counts j 0 → j + 1 ≡ length carried.counts → P Settle)
    → (i + 1 ≡ get_or carried.counts j 0 → j + 1 ≢ length carried.counts → P (Home (j + 1) 0))
    → (i + 1 ≢ get_or carried.counts j 0 → P (Home j (i + 1)))
    → P (following n carried (Home j i))
after_home P n carried j i last next more =
    cond_both (eqb (i + 1) (get_or carried.counts j 0)) (cond (eqb (j + 1) (length carried.counts)) Settle (Home (j + 1) 0))
    (Home j (i + 1)) P
    (λ e. let whole = eqb-true (i + 1) (get_or carried.counts j 0) e in
    cond_both (eqb (j + 1) (length carried.counts)) Settle (Home (j + 1) 0) P (λ f. last whole (eqb-true (j + 1) (length carried.counts) f))
    (λ f. next whole (eqb-false (j + 1) (length carried.counts) f)))
    (λ e. more (eqb-false (i + 1) (get_or carried.counts j 0) e))

pub after_gate : (P : Next → Type 0) (n : ℕ) (carried : Carried) (j : ℕ) → (j + 1 ≡ closings carried → P Idle)
    → (j + 1 ≢ closings carried → P (Close (j + 1))) → P (following n carried (Finish j))
after_gate P n carried j last more =
    cond_both (eqb (j + 1) (closings carried)) Idle (Close (j + 1)) P (λ e. last (eqb-true (j + 1) (closings carried) e))
    (λ e. more (eqb-false (j + 1) (closings carried) e))

-- each is within the batch
abbrev pub AreSome : Carried → Type 0
AreSome carried = (j : ℕ) → j < length carried.counts → 0 < get_or carried.counts j 0

pub within_image : (n : ℕ) (carried : Carried) (i : ℕ) → i < n → IsWithin n carried (following n carried (Image i))
within_image n carried i within = after_image (IsWithin n carried) n carried i (λ e. tt) (λ e. omega (arith, e, within))

pub within_commit : (n : ℕ) (carried : Carried) → AreSome carried → IsWithin n carried (following n carried Commit)
within_commit n carried some = after_commit (IsWithin n carried) n carried (λ e. tt) (λ there. (there, some 0 there))

pub within_home : (n : ℕ) (carried : Carried) (j i : ℕ) → AreSome carried → IsWithin n carried (Home j i)
    → IsWithin n carried (following n carried (Home j i))
within_home n carried j i some within =
    after_home (IsWithin n carried) n carried j i (λ e f. omega (arith, within.0)) (λ e f. let there : j + 1 < length carried.counts =
    omega (arith, within.0, f) in (there, some (j + 1) there)) (λ e. (within.0, omega (arith, within.1, e)))

pub within_gate : (n : ℕ) (carried : Carried) (j : ℕ) → j < closings carried → IsWithin n carried (following n carried (Finish j))
within_gate n carried j there = after_gate (IsWithin n carried) n carried j (λ e. tt) (λ e. omega (arith, there, e))

-- ---- how many writes close what was carried home

pub closings_by : (P : ℕ → Type 0) (carried : Carried) → 0 < length carried.counts → (carried.are_all ≡ true → P 1)
    → (carried.are_all ≡ false → P (length carried.counts)) → P (closings carried)
closings_by P carried some all each =
    cond_both (eqb (length carried.counts) 0) 0 (cond carried.are_all 1 (length carried.counts)) P
    (λ e. absurd (omega (arith, some, eqb-true (length carried.counts) 0 e)))
    (λ e. cond_both carried.are_all 1 (length carried.counts) P all each)

pub closings_some : (carried : Carried) → 0 < length carried.counts → 0 < closings carried
closings_some carried some = closings_by (λ k. 0 < k) carried some (λ e. omega arith) (λ e. some)

pub closings_none : (carried : Carried) → length carried.counts ≡ 0 → closings carried ≡ 0
closings_none carried none =
    cond_both (eqb (length carried.counts) 0) 0 (cond carried.are_all 1 (length carried.counts)) (λ k. k ≡ 0) (λ e. refl)
    (λ e. absurd (eqb-false (length carried.counts) 0 e none))

-- where something is closed, something was carried home
pub carried_where : (carried : Carried) → 0 < closings carried → 0 < length carried.counts
carried_where carried some = positive (length carried.counts) (λ none. absurd (omega (arith, some, closings_none carried none)))

pub closings_few : (carried : Carried) → closings carried ≤ length carried.counts
closings_few carried =
    cond_both (eqb (length carried.counts) 0) 0 (cond carried.are_all 1 (length carried.counts)) (λ k. k ≤ length carried.counts)
    (λ e. omega arith)
    (λ e. let some : 0 < length carried.counts = positive (length carried.counts) (eqb-false (length carried.counts) 0 e) in
    cond_both carried.are_all 1 (length carried.counts) (λ k. k ≤ length carried.counts) (λ a. omega (arith, some)) (λ a. omega arith))

-- ---- how many images each has that is carried home

pub length-sizes : (f : Flight) → f.is_last ≡ true → length (sizes_of f).counts ≡ length (all_of f)
length-sizes f is = ap (λ (b : Bool). length (cond b (carried_of f.segments (all_of f)) none_carried).counts) is
    ∙ length-map (all_of f) (λ h. length h.batch.numbers)

pub size_at : (f : Flight) (j : ℕ) → f.is_last ≡ true → j < length (all_of f)
    → get_or (sizes_of f).counts j 0 ≡ length (held_at (all_of f) j).batch.numbers
size_at f j is within = ap (λ (b : Bool). get_or (cond b (carried_of f.segments (all_of f)) none_carried).counts j 0) is
    ∙ get_or-map (λ (h : HeldBatch). length h.batch.numbers) (all_of f) j none_held 0 within

pub length-none : (f : Flight) → f.is_last ≡ false → length (sizes_of f).counts ≡ 0
length-none f not = ap (λ (b : Bool). length (cond b (carried_of f.segments (all_of f)) none_carried).counts) not

-- where some are to be carried home no closed segment is left
pub last_where : (f : Flight) → 0 < length (sizes_of f).counts → f.is_last ≡ true
last_where f some = elim (cases_Bool f.is_last) [
  | inl is ↦ is
  | inr other ↦ absurd (omega (arith, some, length-none f other))
]

pub left_where : (f : Flight) → length (sizes_of f).counts ≡ 0 → f.is_last ≡ false
left_where f none = elim (cases_Bool f.is_last) [
  | inl is ↦ absurd (omega (arith, none, length-sizes f is, length-append f.held (held_as f.batch ∷ [])))
  | inr other ↦ other
]

pub there_of : (f : Flight) (j : ℕ) → j < length (sizes_of f).counts → j < length (all_of f)
there_of f j there = omega (arith, there, length-sizes f (last_where f (omega (arith, there))))

-- what closes them: the epoch, or the gate of each
pub last_closing : (f : Flight) (j : ℕ) → j < closings (sizes_of f) → f.is_last ≡ true
last_closing f j there = last_where f (carried_where (sizes_of f) (omega (arith, there)))

all_same : (f : Flight) → f.is_last ≡ true → (sizes_of f).are_all ≡ are_all f
all_same f is = ap (λ (b : Bool). (cond b (carried_of f.segments (all_of f)) none_carried).are_all) is

carried_some : (f : Flight) → f.is_last ≡ true → 0 < length (sizes_of f).counts
carried_some f is = omega (arith, length-sizes f is, length-append f.held (held_as f.batch ∷ []))

pub closings_all : (f : Flight) → f.is_last ≡ true → are_all f ≡ true → closings (sizes_of f) ≡ 1
closings_all f is all = closings_by (λ k. k ≡ 1) (sizes_of f) (carried_some f is) (λ e. refl)
    (λ e. absurd (true≢false (sym (all_same f is ∙ all) ∙ e)))

pub closings_each : (f : Flight) → f.is_last ≡ true → are_all f ≡ false → closings (sizes_of f) ≡ length (all_of f)
closings_each f is not = closings_by (λ k. k ≡ length (all_of f)) (sizes_of f) (carried_some f is)
    (λ e. absurd (true≢false (sym e ∙ all_same f is ∙ not))) (λ e. length-sizes f is)

pub closings_last : (room : List Staged) (filled : ℕ) (is_last : Bool) → is_last ≡ true
    → closings (sizes_of (flight_in room filled true)) ≡ closings (sizes_of (flight_in room filled is_last))
closings_last room filled is_last last = ap (λ (b : Bool). closings (sizes_of (flight_in room filled b))) (sym last)

less_up : (n : ℕ) (hs : List HeldBatch) (h : HeldBatch) → HaveLess n hs → h.batch.number < n → HaveLess n (hs ++ h ∷ [])
less_up n [] h less last = (last, tt)
less_up n (g ∷ hs) h less last = (less.0, less_up n hs h less.1 last)

-- ---- the segments in memory

module _ (room : List Staged) (filled : ℕ) (is_last : Bool) (there : filled < length room) where
  abbrev flight : Flight
  flight = flight_in room filled is_last

  pub length-all : length (all_of flight) ≡ filled + 1
  length-all = omega (
    arith,
    length-append (map held_as (take filled room)) (held_as (staged_at room filled) ∷ []),
    length-map (take filled room) held_as,
    length-take-le filled room (omega (arith, there)),
  )

  pub held_in_room : (j : ℕ) → j ≤ filled → held_at (all_of flight) j ≡ held_as (staged_at room j)
  held_in_room j low =
      ap (λ (hs : List HeldBatch). get_or hs j none_held) (sym (map_more held_as room filled none_staged there))
      ∙ get_or-map held_as (take (filled + 1) room) j none_staged none_held
      (omega (arith, low, length-take-le (filled + 1) room (omega (arith, there))))
      ∙ ap held_as (get_or-take (filled + 1) room j none_staged (omega (arith, low)))

  pub sound_all : (blocks : ℕ) → ((t : ℕ) → t ≤ filled → IsStaged blocks (staged_at room t)) → (j : ℕ) → j < length (all_of flight)
      → IsSound blocks (held_at (all_of flight) j).batch
  sound_all blocks staged j within =
      let low : j ≤ filled = omega (arith, within, length-all) in
      subst (λ (h : HeldBatch). IsSound blocks h.batch) (sym (held_in_room j low)) (staged j low).sound

  pub sizes_some : (blocks : ℕ) → ((t : ℕ) → t ≤ filled → IsStaged blocks (staged_at room t)) → AreSome (sizes_of flight)
  sizes_some blocks staged j within =
      let last = last_where flight (omega (arith, within)) in
      omega (arith, size_at flight j last (there_of flight j within), (sound_all blocks staged j (there_of flight j within)).some)

  -- what comes next is of one of them
  pub home_within : (n : ℕ) (next : Next) → IsWithin n (sizes_of flight) next → (j i : ℕ) → next ≡ Home j i
      → (j ≤ filled) × (i < length (staged_at room j).numbers)
  home_within n next within j i is =
      let here : IsWithin n (sizes_of flight) (Home j i) = subst (IsWithin n (sizes_of flight)) is within in
      let among = there_of flight j here.0 in
      let low : j ≤ filled = omega (arith, among, length-all) in (
        low,
        omega (
          arith,
          here.1,
          size_at flight j (last_where flight (omega (arith, here.0))) among,
          ap (λ (h : HeldBatch). length h.batch.numbers) (held_in_room j low),
        ),
      )

  pub gate_within : (n : ℕ) (next : Next) → IsWithin n (sizes_of flight) next → (j : ℕ) → next ≡ Close j → j ≤ filled
  gate_within n next within j is =
      let here : j < closings (sizes_of flight) = subst (IsWithin n (sizes_of flight)) is within in
      omega (arith, there_of flight j (omega (arith, here, closings_few (sizes_of flight))), length-all)

  -- the batch in flight has the greatest number
  less_front : ((t : ℕ) → t ≤ filled → number_at 0 8 (staged_at room t).descriptor ≡ t + 1) → (k : ℕ) → k ≤ filled
      → HaveLess (filled + 1) (map held_as (take k room))
  less_front order zero low = tt
  less_front order (suc k) low =
      subst (λ (m : ℕ). HaveLess (filled + 1) (map held_as (take m room))) (let e : k + 1 ≡ suc k = omega arith in e)
      (subst (HaveLess (filled + 1)) (sym (map_more held_as room k none_staged (omega (arith, low, there))))
      (less_up (filled + 1) (map held_as (take k room)) (held_as (staged_at room k)) (less_front order k (omega (arith, low)))
      (omega (arith, low, order k (omega (arith, low))))))

  pub less_before : ((t : ℕ) → t ≤ filled → ((staged_at room t).place ≡ t) × (number_at 0 8 (staged_at room t).descriptor ≡ t + 1))
      → HaveLess (number_at 0 8 (staged_at room filled).descriptor) (map held_as (take filled room))
  less_before order =
      subst (λ (n : ℕ). HaveLess n (map held_as (take filled room))) (sym (order filled (omega arith)).1)
      (less_front (λ t low. (order t low).1) filled (omega arith))

  -- what a good call answers
  pub answered : (last its count : ℕ) (next : Next) (p : Progress) → last ≡ its → (is_last ≡ true → count ≡ closings (sizes_of flight))
      → IsWithin (length (staged_at room filled).numbers) (sizes_of flight) next
      → ((carried : Carried) → ((j : ℕ) → next ≡ Finish j → closings carried ≡ count) → p ≡ answer last carried next)
      → p ≡ answer its (sizes_of flight) next
  answered last its count next p same counted within is =
      is (sizes_of flight) (λ j e. let here : j < closings (sizes_of flight) =
      subst (λ (x : Next). IsWithin (length (staged_at room filled).numbers) (sizes_of flight) x) e within in
      sym (counted (last_closing flight j here)))
      ∙ ap (λ (l : ℕ). answer l (sizes_of flight) next) same
