-- A release in its middle: some sessions have given, the others are still to give.
use Rattle.std.proofs.Common.{◌≡◌, ℕ, suc, ◌+◌, ◌-◌, ◌≤◌, ◌<◌, Bool, true, false, List, [], ◌∷◌, ◌++◌, length, take, drop, refl, ap, sym}
use Rattle.std.proofs.Common.{◌∙◌, arith, append_assoc, length-append, length-drop, drop-cons, get_or, set}
use Rattle.std.specs.Prelude.{if◌then◌else◌}
use Rattle.std.proofs.lemmas.List.{length-take-le, take_at, drop_at, drop-set-lt, length-set}
use Rattle.std.proofs.Math.Seq.{take-suc-set}
use Rattle.kernel_outbox.proofs.BufferLaws.{octets_in-entry_of, length-entry, octets_in-append}
use Rattle.kernel_outbox.proofs.GivingLaws.{give-room}
use Rattle.kernel_outbox.specs.Queue.{ReadyEntry, Giving, entry_of, octets_in}
use Rattle.kernel_seats.specs.Seats.{Seat, Ready, given_of, ready, seat_given}

-- the release of all sessions gives the entries that stand there and those of the rest, and leaves the sessions up to this place and what
-- the rest leaves
pub record IsRest (p : ℕ) (all : List Seat) (entries : List ReadyEntry) (at : ℕ) (seats : List Seat) : Type 0 where
  pub within : at ≤ length seats
  pub size : length entries + (length seats - at) ≤ length all
  pub entries_are : (ready p 65536 all).entries ≡ entries ++ (ready p (65536 - octets_in entries) (drop at seats)).entries
  pub seats_are : (ready p 65536 all).seats ≡ take at seats ++ (ready p (65536 - octets_in entries) (drop at seats)).seats

pub rest_at_first : (p : ℕ) (all : List Seat) → IsRest p all [] 0 all
rest_at_first p all = record { within = omega arith; size = omega arith; entries_are = refl; seats_are = refl }

-- the room after a session's entry
room_behind : (p : ℕ) (entries : List ReadyEntry) (seat : Seat)
    → 65536 - octets_in (entries ++ entry_of seat.number (given_of p entries seat)) ≡ (given_of p entries seat).room
room_behind p entries seat =
    let g : Giving = given_of p entries seat in
    let sum = give-room p (65536 - octets_in entries) seat.given seat.held in
    omega (arith, octets_in-append entries (entry_of seat.number g), octets_in-entry_of seat.number g, sum)

module _ (p : ℕ) (all : List Seat) (entries : List ReadyEntry) (at : ℕ) (seats : List Seat) (seat : Seat) (lt : at < length seats)
    (is : get_or seats at seat ≡ seat) (h : IsRest p all entries at seats) where
  g : Giving
  g = given_of p entries seat

  abbrev later : ℕ → Ready
  later room = ready p room (drop (suc at) seats)

  here : drop at seats ≡ seat ∷ drop (suc at) seats
  here = drop-cons seats at seat lt ∙ ap (λ (s : Seat). s ∷ drop (suc at) seats) is

  -- what the rest gives, from this session on
  entries_now : (ready p (65536 - octets_in entries) (drop at seats)).entries ≡ entry_of seat.number (given_of p entries seat) ++
      (later (65536 - octets_in (entries ++ entry_of seat.number (given_of p entries seat)))).entries
  entries_now =
      ap (λ (xs : List Seat). (ready p (65536 - octets_in entries) xs).entries) here
      ∙ ap (λ (room : ℕ). entry_of seat.number (given_of p entries seat) ++ (later room).entries) (sym (room_behind p entries seat))

  seats_now : (ended : Bool) → (given_of p entries seat).ended ≡ ended
      → (ready p (65536 - octets_in entries) (drop at seats)).seats
      ≡ (if ended then (later (65536 - octets_in (entries ++ entry_of seat.number (given_of p entries seat)))).seats else seat_given
      seat (given_of p entries seat) ∷ (later (65536 - octets_in (entries ++ entry_of seat.number (given_of p entries seat)))).seats)
  seats_now ended ends =
      ap (λ (xs : List Seat). (ready p (65536 - octets_in entries) xs).seats) here
      ∙ (λ i. if ends i then (later (sym (room_behind p entries seat) i)).seats else seat_given seat (given_of p entries seat) ∷
      (later (sym (room_behind p entries seat) i)).seats)

  pub rest_ended : (given_of p entries seat).ended ≡ true
      → IsRest p all (entries ++ entry_of seat.number (given_of p entries seat)) at (take at seats ++ drop (suc at) seats)
  rest_ended ends =
      let front : length (take at seats) ≡ at = length-take-le at seats (omega arith) in
      let size : length (take at seats ++ drop (suc at) seats) ≡ length seats - 1 =
      omega (arith, length-append (take at seats) (drop (suc at) seats), length-drop (suc at) seats, front) in
      let rest : drop at (take at seats ++ drop (suc at) seats) ≡ drop (suc at) seats =
      drop_at (take at seats) (drop (suc at) seats) at front in
      record {
        within = omega (arith, size);
        size = omega (
          arith,
          size,
          h.size,
          length-append entries (entry_of seat.number (given_of p entries seat)),
          length-entry seat.number (given_of p entries seat),
        );
        entries_are = h.entries_are ∙ (ap (λ (es : List ReadyEntry). entries ++ es) entries_now
            ∙ (sym (append_assoc entries (entry_of seat.number (given_of p entries seat)) _)
            ∙ ap (λ (xs : List Seat). (entries ++ entry_of seat.number (given_of p entries seat)) ++
            (ready p (65536 - octets_in (entries ++ entry_of seat.number (given_of p entries seat))) xs).entries) (sym rest)));
        seats_are = h.seats_are ∙ (ap (λ (ss : List Seat). take at seats ++ ss) (seats_now true ends)
            ∙ (λ i. sym (take_at (take at seats) (drop (suc at) seats) at front) i ++
            (ready p (65536 - octets_in (entries ++ entry_of seat.number (given_of p entries seat))) (sym rest i)).seats));
      }

  pub rest_stays : (given_of p entries seat).ended ≡ false
      → IsRest p all (entries ++ entry_of seat.number (given_of p entries seat)) (suc at)
      (set seats at (seat_given seat (given_of p entries seat)))
  rest_stays goes_on =
      let now : Seat = seat_given seat (given_of p entries seat) in
      let size : length (set seats at now) ≡ length seats = length-set seats at now in
      let rest : drop (suc at) (set seats at now) ≡ drop (suc at) seats = drop-set-lt (suc at) seats at now (omega arith) in
      record {
        within = omega (arith, size);
        size = omega (
          arith,
          size,
          h.size,
          length-append entries (entry_of seat.number (given_of p entries seat)),
          length-entry seat.number (given_of p entries seat),
        );
        entries_are = h.entries_are ∙ (ap (λ (es : List ReadyEntry). entries ++ es) entries_now
            ∙ (sym (append_assoc entries (entry_of seat.number (given_of p entries seat)) _)
            ∙ ap (λ (xs : List Seat). (entries ++ entry_of seat.number (given_of p entries seat)) ++
            (ready p (65536 - octets_in (entries ++ entry_of seat.number (given_of p entries seat))) xs).entries) (sym rest)));
        seats_are = h.seats_are ∙ (ap (λ (ss : List Seat). take at seats ++ ss) (seats_now false goes_on)
            ∙ (sym (append_assoc (take at seats) (now ∷ []) _)
            ∙ (λ i. sym (take-suc-set seats at now lt) i ++
            (ready p (65536 - octets_in (entries ++ entry_of seat.number (given_of p entries seat))) (sym rest i)).seats)));
      }
