-- A session looked for among others in rising number.
use Rattle.std.proofs.Common.{◌≡◌, ◌≢◌, ◌⊎◌, inl, inr, ℕ, zero, suc, ◌+◌, ◌≤◌, ◌<◌, ◌==◌, Bool, true, false, List, [], ◌∷◌, length, refl}
use Rattle.std.proofs.Common.{ap, sym, ◌∙◌, subst, arith, get_or}
use Rattle.std.specs.Prelude.{Some, None, find, if◌then◌else◌, slice_get}
use Rattle.std.proofs.lemmas.Bool.{cases_lt, eqb-true}
use Rattle.std.proofs.lemmas.Option.{slice_get_within}
use Rattle.model.specs.Stream.{Octets}
use Rattle.kernel_outbox.specs.declared.made_lines.Lines.{Lines}
use Rattle.kernel_seats.specs.Kept.{RiseFrom}
use Rattle.kernel_seats.specs.Lined.{LinedSeat, RiseAbove, all_seen}

-- sessions that are seen in rising number are kept so
pub rise_kept : (made : Lines → Octets) (n : ℕ) (seats : List LinedSeat) → RiseFrom n (all_seen made seats) → RiseAbove n seats
rise_kept made n [] rise = tt
rise_kept made n (seat ∷ seats) rise = (rise.0, rise_kept made seat.number seats rise.1)

-- a read gives the session at a place
pub place_of : (seats : List LinedSeat) (at : ℕ) (seat : LinedSeat) → at < length seats → seat ≡ get_or seats at seat
    → slice_get seats at ≡ Some seat
place_of [] at seat within read = absurd (omega arith)
place_of (first ∷ seats) zero seat within read = ap Some (sym read)
place_of (first ∷ seats) (suc at) seat within read = place_of seats at seat (omega (arith, within)) read

above : (n at : ℕ) (seats : List LinedSeat) (seat : LinedSeat) → RiseAbove n seats → slice_get seats at ≡ Some seat → n < seat.number
above n at [] seat rise is = absurd (cc is)
above n zero (first ∷ seats) seat rise is =
    let same : first ≡ seat = cc is in omega (arith, rise.0, ap (λ (s : LinedSeat). s.number) same)
above n (suc at) (first ∷ seats) seat rise is = omega (arith, rise.0, above first.number at seats seat rise.1 is)

-- a later session has a greater number
later : (n i k : ℕ) (seats : List LinedSeat) (a b : LinedSeat) → RiseAbove n seats → slice_get seats i ≡ Some a → slice_get seats k ≡ Some b
    → i < k → a.number < b.number
later n i k [] a b rise here there lt = absurd (cc here)
later n i zero (first ∷ seats) a b rise here there lt = absurd (omega (arith, lt))
later n zero (suc k) (first ∷ seats) a b rise here there lt =
    let same : first ≡ a = cc here in omega (arith, ap (λ (s : LinedSeat). s.number) same, above first.number k seats b rise.1 there)
later n (suc i) (suc k) (first ∷ seats) a b rise here there lt = later first.number i k seats a b rise.1 here there (omega (arith, lt))

-- a session of this number can stand only between these places
pub record IsBetween (seats : List LinedSeat) (sid low high : ℕ) : Type 0 where
  pub within : high ≤ length seats
  pub before : (k : ℕ) (s : LinedSeat) → slice_get seats k ≡ Some s → k < low → s.number < sid
  pub behind : (k : ℕ) (s : LinedSeat) → slice_get seats k ≡ Some s → high ≤ k → sid < s.number

pub between_all : (seats : List LinedSeat) (sid : ℕ) → IsBetween seats sid 0 (length seats)
between_all seats sid = record {
  within = omega arith;
  before = λ k s is low. absurd (omega (arith, low));
  behind = λ k s is high. absurd (omega (arith, high, slice_get_within seats k s is));
}

module _ (seats : List LinedSeat) (sid low high middle : ℕ) (seat : LinedSeat) (rise : RiseAbove 0 seats)
    (is : slice_get seats middle ≡ Some seat) (h : IsBetween seats sid low high) where
  -- the session there has a lower number
  pub between_upper : seat.number < sid → IsBetween seats sid (middle + 1) high
  between_upper lower = record {
    within = h.within;
    before = λ k s there low. elim (cases_lt k middle) [
      | inl front ↦ omega (arith, lower, later 0 k middle seats s seat rise there is front)
      | inr other ↦ let same : k ≡ middle = omega (arith, low, other) in
          let one : Some s ≡ Some seat = sym there ∙ ap (slice_get seats) same ∙ is in
          let equal : s ≡ seat = cc one in omega (arith, lower, ap (λ (x : LinedSeat). x.number) equal)
    ];
    behind = h.behind;
  }

  -- the session there has a greater number
  pub between_lower : sid < seat.number → middle < high → IsBetween seats sid low middle
  between_lower greater front = record {
    within = omega (arith, h.within, front);
    before = h.before;
    behind = λ k s there high. elim (cases_lt middle k) [
      | inl back ↦ omega (arith, greater, later 0 middle k seats seat s rise is there back)
      | inr other ↦ let same : k ≡ middle = omega (arith, high, other) in
          let one : Some s ≡ Some seat = sym there ∙ ap (slice_get seats) same ∙ is in
          let equal : s ≡ seat = cc one in omega (arith, greater, ap (λ (x : LinedSeat). x.number) equal)
    ];
  }

none_of : (seats : List LinedSeat) (sid : ℕ) → ((k : ℕ) (s : LinedSeat) → slice_get seats k ≡ Some s → s.number ≢ sid)
    → find (λ (s : LinedSeat). s.number == sid) seats ≡ None
none_of [] sid differ = refl
none_of (seat ∷ seats) sid differ = go (seat.number == sid) refl (none_of seats sid (λ k s is. differ (suc k) s is))
  where
    go : (b : Bool) → (seat.number == sid) ≡ b → find (λ (s : LinedSeat). s.number == sid) seats ≡ None
        → (if b then Some seat else find (λ (s : LinedSeat). s.number == sid) seats) ≡ None
    go true is rest = absurd (differ 0 seat refl (eqb-true seat.number sid is))
    go false is rest = rest

-- no place is left
pub between_none : (seats : List LinedSeat) (sid low high : ℕ) → high ≤ low → IsBetween seats sid low high
    → find (λ (s : LinedSeat). s.number == sid) seats ≡ None
between_none seats sid low high over h = none_of seats sid (λ k s is same. elim (cases_lt k low) [
  | inl front ↦ omega (arith, same, h.before k s is front)
  | inr back ↦ omega (arith, same, h.behind k s is (omega (arith, back, over)))
])
