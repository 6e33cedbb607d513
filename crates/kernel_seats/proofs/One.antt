-- One session gives, from its place.
use Rattle.std.proofs.Common.{◌≡◌, ℕ, suc, ◌==◌, Bool, true, false, List, ◌++◌, refl, ap, sym, ◌∙◌, arith, get_or, set, subst}
use Rattle.std.specs.Prelude.{Some, find, filter, length, not, take, drop, slice_get, if◌then◌else◌}
use Rattle.std.proofs.lemmas.List.{drop-set-lt, length-map, map-set, take-set}
use Rattle.std.proofs.lemmas.Option.{get_or_from_slice_get}
use Rattle.model.specs.Stream.{Octets}
use Rattle.kernel_outbox.specs.Lines.{output_of}
use Rattle.kernel_outbox.specs.Queue.{ReadyEntry, entry_of}
use Rattle.kernel_outbox.specs.declared.made_lines.Lines.{Lines}
use Rattle.kernel_seats.specs.Lined.{LinedSeat, all_seen, seen}
use Rattle.kernel_seats.specs.Seats.{Seat, given_of, holds, ready_by, ready_of, seat_given, with_seat}
use Rattle.kernel_seats.specs.Kept.{RiseFrom}
use Rattle.kernel_seats.proofs.SeatsLaws.{RiseFrom-set, filter_at, find_at, find_dropped, set_get, with_seat_set}
use Rattle.kernel_seats.proofs.Seeing.{seen_at, seen_place, seen_without}

-- where one is replaced and then dropped, the others stay
pub dropped : (items after : List LinedSeat) (at : ℕ) (new : LinedSeat)
    → after ≡ take at (set items at new) ++ drop (suc at) (set items at new) → after ≡ take at items ++ drop (suc at) items
dropped items after at new is = is ∙ (λ i. take-set items at new i ++ drop-set-lt (suc at) items at new (omega arith) i)

-- The session that is found at a place in what was read of the sessions, and is read there.
module _ (made : Lines → Octets) (p : ℕ) (entries : List ReadyEntry) (items read : List LinedSeat) (at sid : ℕ) (its : LinedSeat)
    (rise : RiseFrom 0 (all_seen made items)) (here : read ≡ items)
    (is_found : (s : LinedSeat) × (slice_get read at ≡ Some s) × (s.number ≡ sid)) (is_read : its ≡ get_or items at its) where
  abbrev seats : List Seat
  seats = all_seen made items

  abbrev seat : Seat
  seat = seen made its

  found : (s : Seat) × (slice_get seats at ≡ Some s) × (s.number ≡ sid)
  found = seen_place made items at sid
      (subst (λ (xs : List LinedSeat). (s : LinedSeat) × (slice_get xs at ≡ Some s) × (s.number ≡ sid)) here is_found)

  same : seat ≡ found.0
  same = sym (seen_at made items at its is_read) ∙ get_or_from_slice_get seats at found.0 seat found.1

  place : slice_get seats at ≡ Some seat
  place = found.1 ∙ ap Some (sym same)

  number : seat.number ≡ sid
  number = ap (λ (s : Seat). s.number) same ∙ found.2

  there : find (λ (s : Seat). s.number == sid) seats ≡ Some seat
  there = ap (λ n. find (λ (s : Seat). s.number == n) seats) (sym number) ∙ find_at 0 at seats seat rise place

  pub one_gives : entry_of seat.number (given_of p entries seat) ≡ (ready_of p entries sid seats).entries
  one_gives = ap (λ o. (ready_by p entries seats o).entries) (sym there)

  -- the sessions after it
  after : (ended : Bool) → (given_of p entries seat).ended ≡ ended
      → (if ended then filter (λ (s : Seat). not (s.number == seat.number)) seats else with_seat seats
      (seat_given seat (given_of p entries seat))) ≡ (ready_of p entries sid seats).seats
  after ended is =
      ap (λ b. if b then filter (λ (s : Seat). not (s.number == seat.number)) seats else with_seat seats
      (seat_given seat (given_of p entries seat))) (sym is)
      ∙ ap (λ o. (ready_by p entries seats o).seats) (sym there)

  -- it ends, and is dropped
  module _ (left : List LinedSeat) (without : left ≡ take at items ++ drop (suc at) items) where
    filtered : all_seen made left ≡ filter (λ (s : Seat). not (s.number == seat.number)) seats
    filtered = ap (all_seen made) without ∙ seen_without made items at ∙ filter_at 0 at seats seat rise place

    pub one_dropped : (given_of p entries seat).ended ≡ true → all_seen made left ≡ (ready_of p entries sid seats).seats
    one_dropped ended = filtered ∙ after true ended

    pub none_held : false ≡ holds (find (λ (s : Seat). s.number == sid) (all_seen made left))
    none_held =
        ap holds (sym (find_dropped sid seats))
        ∙ ap (λ n. holds (find (λ (s : Seat). s.number == sid) (filter (λ (s : Seat). not (s.number == n)) seats))) (sym number)
        ∙ ap (λ xs. holds (find (λ (s : Seat). s.number == sid) xs)) (sym filtered)

  -- it stays, with what it still holds
  module _ (new : LinedSeat) (gave : seen made new ≡ seat_given seat (given_of p entries seat)) where
    written : all_seen made (set items at new) ≡ set seats at (seat_given seat (given_of p entries seat))
    written = map-set (seen made) items at new ∙ ap (set seats at) gave

    pub one_written : (given_of p entries seat).ended ≡ false → all_seen made (set items at new) ≡ (ready_of p entries sid seats).seats
    one_written goes_on =
        written ∙ with_seat_set 0 at seats seat (seat_given seat (given_of p entries seat)) rise place refl ∙ after false goes_on

    pub some_held : not (length new.held == 0) ≡ holds (find (λ (s : Seat). s.number == sid) (all_seen made (set items at new)))
    some_held =
        ap (λ (n : ℕ). not (n == 0)) (sym (length-map new.held (output_of made)))
        ∙ ap (λ (s : Seat). not (length s.held == 0)) gave
        ∙ ap holds (sym (find_at 0 at (set seats at (seat_given seat (given_of p entries seat))) (seat_given seat (given_of p entries seat))
        (RiseFrom-set 0 at seats seat (seat_given seat (given_of p entries seat)) rise place refl)
        (set_get at seats seat (seat_given seat (given_of p entries seat)) place)))
        ∙ ap (λ n. holds (find (λ (s : Seat). s.number == n) (set seats at (seat_given seat (given_of p entries seat))))) number
        ∙ ap (λ xs. holds (find (λ (s : Seat). s.number == sid) xs)) (sym written)
