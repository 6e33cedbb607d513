-- The sessions that are there, by their numbers, before and after each call.
use Rattle.std.proofs.Common.{◌≡◌, ◌≢◌, ℕ, ◌-◌, ◌≤◌, ◌==◌, Bool, true, false, List, [], ◌∷◌, ◌++◌, length, Option, Some, None, refl, ap}
use Rattle.std.proofs.Common.{sym, ◌∙◌, subst, arith, append_assoc, length-append}
use Rattle.std.specs.Prelude.{not, ◌&&◌, find, filter, if◌then◌else◌}
use Rattle.std.proofs.lemmas.Bool.{eqb-true, eqb-false, eq-eqb}
use Rattle.std.proofs.lemmas.Bool.Decides.{nat_tests}
use Rattle.std.proofs.lemmas.List.{append-nil}
use Rattle.kernel_outbox.specs.Queue.{Giving, ReadyEntry, give, entry_of, nothing_more, octets_in}
use Rattle.kernel_outbox.proofs.GivingLaws.{give-full}
use Rattle.kernel_seats.specs.Seats.{Seat, Ready, ready, ready_by, seat_given, with_seat}
use Rattle.kernel_seats.specs.Kept.{RiseFrom}
use Rattle.kernel_seats.proofs.SeatsLaws.{eqb-same}
use Rattle.kernel_trace.specs.Events.{ready_within}
use Rattle.kernel_trace.specs.Fields.{given_in}
use Rattle.kernel_trace.proofs.Giving.{give_room}
use Rattle.synchrony.specs.Server.{updated}

-- the session of a number among these
abbrev pub seat_in : List Seat → ℕ → Option Seat
seat_in seats number = find (λ (seat : Seat). seat.number == number) seats

-- what a look-up finds has that number
pub seat_in-number : (seats : List Seat) (number : ℕ) (seat : Seat) → seat_in seats number ≡ Some seat → seat.number ≡ number
seat_in-number [] number seat is = absurd (cc is)
seat_in-number (first ∷ seats) number seat is = go (first.number == number) refl is (seat_in-number seats number seat)
  where
    go : (b : Bool) → (first.number == number) ≡ b → (if b then Some first else seat_in seats number) ≡ Some seat
        → (seat_in seats number ≡ Some seat → seat.number ≡ number) → seat.number ≡ number
    go true e f later = let same : first ≡ seat = cc f in sym (ap (λ (s : Seat). s.number) same) ∙ eqb-true first.number number e
    go false e f later = later f

-- no number up to that from which the others rise
pub seat_in-below : (n number : ℕ) (seats : List Seat) → RiseFrom n seats → number ≤ n → seat_in seats number ≡ None
seat_in-below n number [] rise le = refl
seat_in-below n number (first ∷ seats) rise le =
    let other : (first.number == number) ≡ false = grind (arith, nat_tests, rise.0) in
    ap (λ b. if b then Some first else seat_in seats number) other ∙ seat_in-below first.number number seats rise.1 (omega (arith, rise.0))

-- ---- what a session is given in a release

given_in-append : (number : ℕ) (one two : List ReadyEntry) → given_in number (one ++ two) ≡ given_in number one ++ given_in number two
given_in-append number [] two = refl
given_in-append number (entry ∷ one) two = ap (λ xs. (if entry.0 == number then entry.1 else []) ++ xs) (given_in-append number one two)
    ∙ sym (append_assoc (if entry.0 == number then entry.1 else []) (given_in number one) (given_in number two))

-- a session's own entry has what it is given
given_in-own : (number : ℕ) (g : Giving) → given_in number (entry_of number g) ≡ g.octets
given_in-own number g = go g.octets refl g.ended
  where
    same : (number == number) ≡ true
    same = eq-eqb number number refl

    own : (octets : List ℕ) (ended : Bool) → given_in number ((number, octets, ended) ∷ []) ≡ octets
    own octets ended = ap (λ b. (if b then octets else []) ++ []) same ∙ append-nil octets

    go : (octets : List ℕ) → g.octets ≡ octets → (ended : Bool)
        → given_in number (if length octets == 0 && not ended then [] else (number, octets, ended) ∷ []) ≡ octets
    go [] is true = own [] true
    go [] is false = refl
    go (octet ∷ octets) is ended =
        let some : (length (octet ∷ octets) == 0) ≡ false = grind (arith, nat_tests) in
        ap (λ b. given_in number (if b && not ended then [] else (number, octet ∷ octets, ended) ∷ [])) some ∙ own (octet ∷ octets) ended

given_in-other : (number other : ℕ) (g : Giving) → (other == number) ≡ false → given_in number (entry_of other g) ≡ []
given_in-other number other g differs = go (length g.octets == 0 && not g.ended)
  where
    go : (b : Bool) → given_in number (if b then [] else (other, g.octets, g.ended) ∷ []) ≡ []
    go true = refl
    go false = ap (λ b. (if b then g.octets else []) ++ []) differs

-- a session after it was given this, unless it ended
abbrev pub seat_after : Seat → Giving → Option Seat
seat_after seat g = if g.ended then None else Some (record { number = seat.number; session = seat.session; given = g.given; held = g.held })

-- of a session that is there: it was given what some room allows; of another, nothing
abbrev pub Given : ℕ → Option Seat → Option Seat → List ℕ → Type 0
Given p None after octets = (after ≡ None) × (octets ≡ [])
Given p (Some seat) after octets =
    (room : ℕ) × (after ≡ seat_after seat (give p room seat.given seat.held)) × (octets ≡ (give p room seat.given seat.held).octets)

pub ready_gives : (n p room : ℕ) (seats : List Seat) → RiseFrom n seats → (number : ℕ)
    → Given p (seat_in seats number) (seat_in (ready p room seats).seats number) (given_in number (ready p room seats).entries)
ready_gives n p room [] rise number = (refl, refl)
ready_gives n p room (seat ∷ seats) rise number =
    go (seat.number == number) refl g.ended refl (ready_gives seat.number p g.room seats rise.1 number)
  where
    g : Giving
    g = give p room seat.given seat.held

    later : Ready
    later = ready p g.room seats

    still : Seat
    still = record { number = seat.number; session = seat.session; given = g.given; held = g.held }

    entries : given_in number (entry_of seat.number g ++ later.entries) ≡ given_in number (entry_of seat.number g)
        ++ given_in number later.entries
    entries = given_in-append number (entry_of seat.number g) later.entries

    go : (own : Bool) → (seat.number == number) ≡ own → (ended : Bool) → g.ended ≡ ended
        → Given p (seat_in seats number) (seat_in later.seats number) (given_in number later.entries)
        → Given p (if own then Some seat else seat_in seats number) (seat_in (if ended then later.seats else still ∷ later.seats) number)
        (given_in number (entry_of seat.number g ++ later.entries))
    go true is ended ends rest =
        let same : seat.number ≡ number = eqb-true seat.number number is in
        let nowhere : seat_in seats number ≡ None = seat_in-below seat.number number seats rise.1 (omega arith) in
        let gone : (seat_in later.seats number ≡ None) × (given_in number later.entries ≡ []) =
        subst (λ o. Given p o (seat_in later.seats number) (given_in number later.entries)) nowhere rest in (
          room,
          after ended gone.0 ∙ ap (λ b. if b then None else Some still) (sym ends),
          entries ∙ ((λ i. given_in (sym same i) (entry_of seat.number g) ++ gone.1 i)
              ∙ (append-nil (given_in seat.number (entry_of seat.number g)) ∙ given_in-own seat.number g)),
        )
      where
        after : (b : Bool) → seat_in later.seats number ≡ None
            → seat_in (if b then later.seats else still ∷ later.seats) number ≡ (if b then None else Some still)
        after true none = none
        after false none = ap (λ b. if b then Some still else seat_in later.seats number) is
    go false is ended ends rest =
        subst (λ (t : Option Seat × List ℕ). Given p (seat_in seats number) t.0 t.1) (λ i. (sym (after ended) i, sym octets i)) rest
      where
        after : (b : Bool) → seat_in (if b then later.seats else still ∷ later.seats) number ≡ seat_in later.seats number
        after true = refl
        after false = ap (λ b. if b then Some still else seat_in later.seats number) is

        octets : given_in number (entry_of seat.number g ++ later.entries) ≡ given_in number later.entries
        octets = entries ∙ ap (λ xs. xs ++ given_in number later.entries) (given_in-other number seat.number g is)

-- ---- the small calls

pub eqb-other : (a b : ℕ) → a ≢ b → (a == b) ≡ false
eqb-other a b differs = grind (arith, nat_tests, differs)

-- what holds at a number and at each other one holds everywhere
pub by_number : (P : ℕ → Type 0) (number : ℕ) → P number → ((k : ℕ) → k ≢ number → P k) → (k : ℕ) → P k
by_number P number here others k = go (k == number) refl
  where
    go : (b : Bool) → (k == number) ≡ b → P k
    go true is = subst P (sym (eqb-true k number is)) here
    go false is = others k (eqb-false k number is)

pub updated-same : {A : Type 0} (f : ℕ → A) (number : ℕ) (x : A) → updated f number x number ≡ x
updated-same f number x = ap (λ b. if b then x else f number) (eqb-same number)

pub updated-other : {A : Type 0} (f : ℕ → A) (number k : ℕ) (x : A) → k ≢ number → updated f number x k ≡ f k
updated-other f number k x differs = ap (λ b. if b then x else f k) (eqb-other k number differs)

-- a session joins
joins-here : (seats : List Seat) (new : Seat) → seat_in seats new.number ≡ None → seat_in (seats ++ new ∷ []) new.number ≡ Some new
joins-here [] new none = ap (λ b. if b then Some new else None) (eqb-same new.number)
joins-here (first ∷ seats) new none = go (first.number == new.number) none (joins-here seats new)
  where
    go : (b : Bool) → (if b then Some first else seat_in seats new.number) ≡ None
        → (seat_in seats new.number ≡ None → seat_in (seats ++ new ∷ []) new.number ≡ Some new)
        → (if b then Some first else seat_in (seats ++ new ∷ []) new.number) ≡ Some new
    go true is later = absurd (cc is)
    go false is later = later is

joins-other : (seats : List Seat) (new : Seat) (k : ℕ) → k ≢ new.number → seat_in (seats ++ new ∷ []) k ≡ seat_in seats k
joins-other [] new k differs = ap (λ b. if b then Some new else None) (eqb-other new.number k (λ e. differs (sym e)))
joins-other (first ∷ seats) new k differs = ap (λ o. if first.number == k then Some first else o) (joins-other seats new k differs)

pub seat_in-joined : (seats : List Seat) (new : Seat) → seat_in seats new.number ≡ None → (k : ℕ)
    → seat_in (seats ++ new ∷ []) k ≡ updated (seat_in seats) new.number (Some new) k
seat_in-joined seats new none =
    by_number (λ k. seat_in (seats ++ new ∷ []) k ≡ updated (seat_in seats) new.number (Some new) k) new.number
    (joins-here seats new none ∙ sym (updated-same (seat_in seats) new.number (Some new)))
    (λ k differs. joins-other seats new k differs ∙ sym (updated-other (seat_in seats) new.number k (Some new) differs))

-- a session leaves
leaves-here : (number : ℕ) (seats : List Seat) → seat_in (filter (λ (seat : Seat). not (seat.number == number)) seats) number ≡ None
leaves-here number [] = refl
leaves-here number (first ∷ seats) = go (first.number == number) refl (leaves-here number seats)
  where
    go : (b : Bool) → (first.number == number) ≡ b → seat_in (filter (λ (seat : Seat). not (seat.number == number)) seats) number ≡ None
        → seat_in (if not b then first ∷ filter (λ (seat : Seat). not (seat.number == number)) seats else filter
        (λ (seat : Seat). not (seat.number == number)) seats) number ≡ None
    go true is later = later
    go false is later = ap (λ b. if b then Some first else seat_in (filter (λ (seat : Seat). not (seat.number == number)) seats) number) is
        ∙ later

leaves-other : (number : ℕ) (seats : List Seat) (k : ℕ) → k ≢ number
    → seat_in (filter (λ (seat : Seat). not (seat.number == number)) seats) k ≡ seat_in seats k
leaves-other number [] k differs = refl
leaves-other number (first ∷ seats) k differs = go (first.number == number) refl (leaves-other number seats k differs)
  where
    go : (b : Bool) → (first.number == number) ≡ b
        → seat_in (filter (λ (seat : Seat). not (seat.number == number)) seats) k ≡ seat_in seats k
        → seat_in (if not b then first ∷ filter (λ (seat : Seat). not (seat.number == number)) seats else filter
        (λ (seat : Seat). not (seat.number == number)) seats) k ≡ seat_in (first ∷ seats) k
    go true is later = later ∙ sym (ap (λ b. if b then Some first else seat_in seats k)
        (eqb-other first.number k (λ e. differs (sym e ∙ eqb-true first.number number is))))
    go false is later = ap (λ o. if first.number == k then Some first else o) later

pub seat_in-left : (number : ℕ) (seats : List Seat) (k : ℕ)
    → seat_in (filter (λ (seat : Seat). not (seat.number == number)) seats) k ≡ updated (seat_in seats) number None k
seat_in-left number seats =
    by_number (λ k. seat_in (filter (λ (seat : Seat). not (seat.number == number)) seats) k ≡ updated (seat_in seats) number None k) number
    (leaves-here number seats ∙ sym (updated-same (seat_in seats) number None))
    (λ k differs. leaves-other number seats k differs ∙ sym (updated-other (seat_in seats) number k None differs))

-- a session is answered
answered-here : (seats : List Seat) (seat old : Seat) → seat_in seats seat.number ≡ Some old
    → seat_in (with_seat seats seat) seat.number ≡ Some seat
answered-here [] seat old is = absurd (cc is)
answered-here (first ∷ seats) seat old is = go (first.number == seat.number) refl is (answered-here seats seat old)
  where
    go : (b : Bool) → (first.number == seat.number) ≡ b → (if b then Some first else seat_in seats seat.number) ≡ Some old
        → (seat_in seats seat.number ≡ Some old → seat_in (with_seat seats seat) seat.number ≡ Some seat)
        → seat_in ((if b then seat else first) ∷ with_seat seats seat) seat.number ≡ Some seat
    go true e f later = ap (λ b. if b then Some seat else seat_in (with_seat seats seat) seat.number) (eqb-same seat.number)
    go false e f later = ap (λ b. if b then Some first else seat_in (with_seat seats seat) seat.number) e ∙ later f

answered-other : (seats : List Seat) (seat : Seat) (k : ℕ) → k ≢ seat.number → seat_in (with_seat seats seat) k ≡ seat_in seats k
answered-other [] seat k differs = refl
answered-other (first ∷ seats) seat k differs = go (first.number == seat.number) refl (answered-other seats seat k differs)
  where
    go : (b : Bool) → (first.number == seat.number) ≡ b → seat_in (with_seat seats seat) k ≡ seat_in seats k
        → seat_in ((if b then seat else first) ∷ with_seat seats seat) k ≡ seat_in (first ∷ seats) k
    go true e later =
        (λ i. if eqb-other seat.number k (λ e. differs (sym e)) i then Some seat else later i)
        ∙ sym (ap (λ b. if b then Some first else seat_in seats k)
        (eqb-other first.number k (λ f. differs (sym f ∙ eqb-true first.number seat.number e))))
    go false e later = ap (λ o. if first.number == k then Some first else o) later

pub seat_in-answered : (seats : List Seat) (seat old : Seat) → seat_in seats seat.number ≡ Some old → (k : ℕ)
    → seat_in (with_seat seats seat) k ≡ updated (seat_in seats) seat.number (Some seat) k
seat_in-answered seats seat old is =
    by_number (λ k. seat_in (with_seat seats seat) k ≡ updated (seat_in seats) seat.number (Some seat) k) seat.number
    (answered-here seats seat old is ∙ sym (updated-same (seat_in seats) seat.number (Some seat)))
    (λ k differs. answered-other seats seat k differs ∙ sym (updated-other (seat_in seats) seat.number k (Some seat) differs))

-- ---- one session gives

given_nothing : (p : ℕ) (o : Option Seat) → Given p o o []
given_nothing p None = (refl, refl)
given_nothing p (Some seat) =
    let none : give p 0 seat.given seat.held ≡ nothing_more 0 seat.given seat.held = give-full p 0 seat.given seat.held refl in
    (0, ap (seat_after seat) (sym none), ap (λ (g : Giving). g.octets) (sym none))

pub one_gives : (p room number : ℕ) (seats : List Seat) (k : ℕ)
    → Given p (seat_in seats k) (seat_in (ready_within p room seats (seat_in seats number)).seats k)
    (given_in k (ready_within p room seats (seat_in seats number)).entries)
one_gives p room number seats k = go (seat_in seats number) refl
  where
    found : (seat : Seat) → seat_in seats seat.number ≡ Some seat
        → Given p (seat_in seats k) (seat_in (ready_within p room seats (Some seat)).seats k)
        (given_in k (ready_within p room seats (Some seat)).entries)
    found seat is =
        by_number (λ j. Given p (seat_in seats j) (seat_in (ready_within p room seats (Some seat)).seats j)
        (given_in j (ready_within p room seats (Some seat)).entries)) seat.number
        (subst (λ o. Given p o (seat_in (ready_within p room seats (Some seat)).seats seat.number)
        (given_in seat.number (entry_of seat.number g))) (sym is) (
          room,
          after g.ended seat.number ∙ updated-same (seat_in seats) seat.number (seat_after seat g),
          given_in-own seat.number g,
        ))
        (λ j differs. subst (λ (t : Option Seat × List ℕ). Given p (seat_in seats j) t.0 t.1)
        (λ i. (
          sym (after g.ended j
              ∙ updated-other (seat_in seats) seat.number j (seat_after seat g) differs) i,
          sym
              (given_in-other j seat.number g (eqb-other seat.number j (λ e. differs (sym e)))) i,
        ))
        (given_nothing p (seat_in seats j)))
        k
      where
        g : Giving
        g = give p room seat.given seat.held

        after : (ended : Bool) (j : ℕ) → seat_in
            (if ended then filter (λ (other : Seat). not (other.number == seat.number)) seats else with_seat seats
            (seat_given seat (give p room seat.given seat.held))) j
            ≡ updated (seat_in seats) seat.number (if ended then None else Some (seat_given seat (give p room seat.given seat.held))) j
        after true j = seat_in-left seat.number seats j
        after false j = seat_in-answered seats (seat_given seat (give p room seat.given seat.held)) seat is j

    go : (o : Option Seat) → seat_in seats number ≡ o
        → Given p (seat_in seats k) (seat_in (ready_within p room seats o).seats k) (given_in k (ready_within p room seats o).entries)
    go None is = given_nothing p (seat_in seats k)
    go (Some seat) is = found seat (ap (seat_in seats) (seat_in-number seats number seat is) ∙ is)

-- ---- no more than the room is given

entry_short : (number other : ℕ) (g : Giving) → length (given_in number (entry_of other g)) ≤ length g.octets
entry_short number other g = go (length g.octets == 0 && not g.ended) (other == number)
  where
    own : (b : Bool) → length ((if b then g.octets else []) ++ []) ≤ length g.octets
    own true = omega (arith, length-append g.octets [])
    own false = omega arith

    go : (none own_number : Bool) → length (given_in number (if none then [] else (other, g.octets, g.ended) ∷ [])) ≤ length g.octets
    go true b = omega arith
    go false b = own (other == number)

pub ready_short : (p room : ℕ) (seats : List Seat) (number : ℕ) → length (given_in number (ready p room seats).entries) ≤ room
ready_short p room [] number = omega arith
ready_short p room (seat ∷ seats) number =
    let g : Giving = give p room seat.given seat.held in
    let later : Ready = ready p g.room seats in
    omega (
      arith,
      ap length (given_in-append number (entry_of seat.number g) later.entries),
      length-append (given_in number (entry_of seat.number g)) (given_in number later.entries),
      entry_short number seat.number g,
      ready_short p g.room seats number,
      give_room p room seat.given seat.held,
    )

pub one_short : (p room number : ℕ) (seats : List Seat) (k : ℕ)
    → length (given_in k (ready_within p room seats (seat_in seats number)).entries) ≤ room
one_short p room number seats k = go (seat_in seats number)
  where
    go : (o : Option Seat) → length (given_in k (ready_within p room seats o).entries) ≤ room
    go None = omega arith
    go (Some seat) = omega (
      arith,
      entry_short k seat.number (give p room seat.given seat.held),
      give_room p room seat.given seat.held,
    )

-- ---- a release into a buffer that holds octets

-- it gives what one gives with the room that is left
pub of_within : (p : ℕ) (entries : List ReadyEntry) (seats : List Seat) (o : Option Seat)
    → ready_by p entries seats o ≡ ready_within p (65536 - octets_in entries) seats o
of_within p entries seats None = refl
of_within p entries seats (Some seat) = refl
