-- The sessions of a kernel as a list: one of them found, changed, added or dropped.
use Rattle.std.proofs.Common.{◌≡◌, ℕ, zero, suc, ◌≤◌, ◌<◌, ◌==◌, Bool, true, false, List, [], ◌∷◌, ◌++◌, refl, ap, sym, ◌∙◌, subst, arith}
use Rattle.std.proofs.Common.{set, eq-eqb}
use Rattle.std.specs.Prelude.{Some, None, find, filter, not, take, drop, if◌then◌else◌, slice_get, All}
use Rattle.std.proofs.lemmas.Bool.{eqb-true}
use Rattle.std.proofs.lemmas.List.Elements.{All-weaker}
use Rattle.model.specs.Stream.{Octets}
use Rattle.model.specs.Spool.{Spool}
use Rattle.kernel_seats.specs.Seats.{Seat, with_seat}
use Rattle.kernel_seats.specs.Kept.{IsSeat, RiseFrom}
use Rattle.kernel_seats.proofs.Keeping.{SeatIsKept-more}
use Rattle.kernel_seats.proofs.Releasing.{RiseFrom-lower}

-- the number of a session that stands after some rises above theirs
above : (n at : ℕ) (seats : List Seat) (seat : Seat) → RiseFrom n seats → slice_get seats at ≡ Some seat → n < seat.number
above n at [] seat rise is = absurd (cc is)
above n zero (first ∷ seats) seat rise is = let same : first ≡ seat = cc is in omega (arith, rise.0, ap (λ (s : Seat). s.number) same)
above n (suc at) (first ∷ seats) seat rise is = omega (arith, rise.0, above first.number at seats seat rise.1 is)

pub eqb-same : (n : ℕ) → (n == n) ≡ true
eqb-same n = eq-eqb n n refl

eqb-below : (m n : ℕ) → m < n → (m == n) ≡ false
eqb-below m n lt = go (m == n) refl
  where
    go : (b : Bool) → (m == n) ≡ b → (m == n) ≡ false
    go true is = absurd (omega (arith, eqb-true m n is))
    go false is = is

eqb-above : (m n : ℕ) → n < m → (m == n) ≡ false
eqb-above m n lt = go (m == n) refl
  where
    go : (b : Bool) → (m == n) ≡ b → (m == n) ≡ false
    go true is = absurd (omega (arith, eqb-true m n is))
    go false is = is

-- a session before a place has another number
pub below_differs : (n at : ℕ) (seats : List Seat) (seat : Seat) → RiseFrom n seats → slice_get seats at ≡ Some seat
    → (n == seat.number) ≡ false
below_differs n at seats seat rise is = eqb-below n seat.number (above n at seats seat rise is)

-- sessions with greater numbers stay
pub filter_above : (n : ℕ) (seats : List Seat) (seat : Seat) → RiseFrom n seats → seat.number ≤ n
    → filter (λ (s : Seat). not (s.number == seat.number)) seats ≡ seats
filter_above n [] seat rise le = refl
filter_above n (first ∷ seats) seat rise le =
    let other : (first.number == seat.number) ≡ false = eqb-above first.number seat.number (omega (arith, rise.0)) in
    ap (λ (b : Bool). if not b then first ∷ filter (λ (s : Seat). not (s.number == seat.number)) seats else filter
    (λ (s : Seat). not (s.number == seat.number)) seats) other
    ∙ ap (λ (ss : List Seat). first ∷ ss) (filter_above first.number seats seat rise.1 (omega (arith, rise.0)))

-- the session at a place is the one of its number
pub find_at : (n at : ℕ) (seats : List Seat) (seat : Seat) → RiseFrom n seats → slice_get seats at ≡ Some seat
    → find (λ (s : Seat). s.number == seat.number) seats ≡ Some seat
find_at n at [] seat rise is = absurd (cc is)
find_at n zero (first ∷ seats) seat rise is =
    let same : first ≡ seat = cc is in
    ap (λ (b : Bool). if b then Some first else find (λ (s : Seat). s.number == seat.number) seats)
    (ap (λ (s : Seat). s.number == seat.number) same ∙ eqb-same seat.number) ∙ ap Some same
find_at n (suc at) (first ∷ seats) seat rise is =
    let other : (first.number == seat.number) ≡ false = eqb-below first.number seat.number (above first.number at seats seat rise.1 is) in
    ap (λ (b : Bool). if b then Some first else find (λ (s : Seat). s.number == seat.number) seats) other
    ∙ find_at first.number at seats seat rise.1 is

-- the session at a place dropped
pub filter_at : (n at : ℕ) (seats : List Seat) (seat : Seat) → RiseFrom n seats → slice_get seats at ≡ Some seat
    → take at seats ++ drop (suc at) seats ≡ filter (λ (s : Seat). not (s.number == seat.number)) seats
filter_at n at [] seat rise is = absurd (cc is)
filter_at n zero (first ∷ seats) seat rise is =
    let same : first ≡ seat = cc is in
    let here : (first.number == seat.number) ≡ true = eq-eqb first.number seat.number (ap (λ (s : Seat). s.number) same) in
    let rest = filter_above first.number seats seat rise.1 (omega (arith, ap (λ (s : Seat). s.number) same)) in
    sym (ap (λ (b : Bool). if not b then first ∷ filter (λ (s : Seat). not (s.number == seat.number)) seats else filter
    (λ (s : Seat). not (s.number == seat.number)) seats) here ∙ rest)
filter_at n (suc at) (first ∷ seats) seat rise is =
    let other : (first.number == seat.number) ≡ false = below_differs first.number at seats seat rise.1 is in
    ap (λ (ss : List Seat). first ∷ ss) (filter_at first.number at seats seat rise.1 is)
    ∙ sym (ap (λ (b : Bool). if not b then first ∷ filter (λ (s : Seat). not (s.number == seat.number)) seats else filter
    (λ (s : Seat). not (s.number == seat.number)) seats) other)

-- and then none of its number is there
pub find_dropped : (number : ℕ) (seats : List Seat)
    → find (λ (s : Seat). s.number == number) (filter (λ (s : Seat). not (s.number == number)) seats) ≡ None
find_dropped number [] = refl
find_dropped number (first ∷ seats) = go (first.number == number) refl (find_dropped number seats)
  where
    go : (b : Bool) → (first.number == number) ≡ b
        → find (λ (s : Seat). s.number == number) (filter (λ (s : Seat). not (s.number == number)) seats) ≡ None
        → find (λ (s : Seat). s.number == number)
        (if not b then first ∷ filter (λ (s : Seat). not (s.number == number)) seats else filter
        (λ (s : Seat). not (s.number == number)) seats) ≡ None
    go true is later = later
    go false is later = ap (λ (b : Bool). if b then Some first else find (λ (s : Seat). s.number == number)
        (filter (λ (s : Seat). not (s.number == number)) seats)) is ∙ later

-- a session that is found has a place
pub find_place : (number : ℕ) (seats : List Seat) (seat : Seat) → find (λ (s : Seat). s.number == number) seats ≡ Some seat
    → (at : ℕ) × (slice_get seats at ≡ Some seat)
find_place number [] seat is = absurd (cc is)
find_place number (first ∷ seats) seat is = go (first.number == number) is (find_place number seats seat)
  where
    go : (b : Bool) → (if b then Some first else find (λ (s : Seat). s.number == number) seats) ≡ Some seat
        → (find (λ (s : Seat). s.number == number) seats ≡ Some seat → (at : ℕ) × (slice_get seats at ≡ Some seat))
        → (at : ℕ) × (slice_get (first ∷ seats) at ≡ Some seat)
    go true e later = (0, e)
    go false e later = let l = later e in (suc l.0, l.1)

-- a write of one session
pub set_get : (at : ℕ) (seats : List Seat) (seat new : Seat) → slice_get seats at ≡ Some seat → slice_get (set seats at new) at ≡ Some new
set_get at [] seat new is = absurd (cc is)
set_get zero (first ∷ seats) seat new is = refl
set_get (suc at) (first ∷ seats) seat new is = set_get at seats seat new is

unchanged : (n : ℕ) (seats : List Seat) (new : Seat) → RiseFrom n seats → new.number ≤ n → with_seat seats new ≡ seats
unchanged n [] new rise le = refl
unchanged n (first ∷ seats) new rise le =
    let other : (first.number == new.number) ≡ false = eqb-above first.number new.number (omega (arith, rise.0)) in
    (λ i. (if other i then new else first) ∷ unchanged first.number seats new rise.1 (omega (arith, rise.0)) i)

pub with_seat_set : (n at : ℕ) (seats : List Seat) (seat new : Seat) → RiseFrom n seats → slice_get seats at ≡ Some seat
    → new.number ≡ seat.number → set seats at new ≡ with_seat seats new
with_seat_set n at [] seat new rise is same = absurd (cc is)
with_seat_set n zero (first ∷ seats) seat new rise is same =
    let this : first.number ≡ new.number = let e : first ≡ seat = cc is in ap (λ (s : Seat). s.number) e ∙ sym same in
    let here : (first.number == new.number) ≡ true = eq-eqb first.number new.number this in
    sym (λ i. (if here i then new else first) ∷ unchanged first.number seats new rise.1 (omega (arith, this)) i)
with_seat_set n (suc at) (first ∷ seats) seat new rise is same =
    let other : (first.number == new.number) ≡ false =
    eqb-below first.number new.number (omega (arith, above first.number at seats seat rise.1 is)) in
    (λ i. (if sym other i then new else first) ∷ with_seat_set first.number at seats seat new rise.1 is same i)

pub RiseFrom-set : (n at : ℕ) (seats : List Seat) (seat new : Seat) → RiseFrom n seats → slice_get seats at ≡ Some seat
    → new.number ≡ seat.number → RiseFrom n (set seats at new)
RiseFrom-set n at [] seat new rise is same = absurd (cc is)
RiseFrom-set n zero (first ∷ seats) seat new rise is same =
    let this : first.number ≡ new.number = let e : first ≡ seat = cc is in ap (λ (s : Seat). s.number) e ∙ sym same in
    (omega (arith, rise.0, this), subst (λ (k : ℕ). RiseFrom k seats) this rise.1)
RiseFrom-set n (suc at) (first ∷ seats) seat new rise is same = (rise.0, RiseFrom-set first.number at seats seat new rise.1 is same)

pub RiseFrom-push : (n : ℕ) (seats : List Seat) (new : Seat) → RiseFrom n seats → n < new.number
    → ((k : ℕ) (s : Seat) → slice_get seats k ≡ Some s → s.number < new.number) → RiseFrom n (seats ++ new ∷ [])
RiseFrom-push n [] new rise lt all = (lt, tt)
RiseFrom-push n (first ∷ seats) new rise lt all =
    (rise.0, RiseFrom-push first.number seats new rise.1 (all 0 first refl) (λ k s is. all (suc k) s is))

pub RiseFrom-filter : (p : Seat → Bool) (n : ℕ) (seats : List Seat) → RiseFrom n seats → RiseFrom n (filter p seats)
RiseFrom-filter p n [] rise = tt
RiseFrom-filter p n (first ∷ seats) rise = go (p first) (RiseFrom-filter p first.number seats rise.1)
  where
    go : (b : Bool) → RiseFrom first.number (filter p seats) → RiseFrom n (if b then first ∷ filter p seats else filter p seats)
    go true later = (rise.0, later)
    go false later = RiseFrom-lower n first.number _ (omega (arith, rise.0)) later

-- each session on a longer spool
pub seats_more : (host : Octets) (S more : Spool) (joined : ℕ) (seats : List Seat) → All (IsSeat host S joined) seats
    → All (IsSeat host (S ++ more) joined) seats
seats_more host S more joined seats h =
    All-weaker (IsSeat host S joined) (IsSeat host (S ++ more) joined)
    (λ seat k. record {
      outputs = SeatIsKept-more host S more seat.given seat.held seat.session k.outputs;
      awaits = k.awaits;
      lawful = k.lawful;
      some = k.some;
      spent = k.spent;
    }) seats h
