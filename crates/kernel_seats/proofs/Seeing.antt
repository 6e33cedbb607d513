-- Sessions as they are kept, and as they are seen with their lines made.
use Rattle.std.proofs.Common.{◌≡◌, ℕ, suc, ◌==◌, Bool, true, false, List, [], ◌∷◌, ◌++◌, refl, ap, sym, ◌∙◌, get_or, take, drop}
use Rattle.std.specs.Prelude.{Some, find, option_map, slice_get, if◌then◌else◌}
use Rattle.std.specs.List.{drop-map, take-map}
use Rattle.std.proofs.lemmas.List.{map-append}
use Rattle.std.proofs.Math.ListN.{get_or-map}
use Rattle.std.proofs.lemmas.List.Elements.{All-append, All-drop, All-take}
use Rattle.std.proofs.lemmas.Option.{slice_get-map}
use Rattle.model.specs.Stream.{Octets}
use Rattle.kernel_outbox.specs.declared.made_lines.Lines.{Lines}
use Rattle.kernel_seats.specs.Seats.{Seat}
use Rattle.kernel_seats.specs.Lined.{AllAreLined, LinedSeat, SeatIsLined, all_seen, seen}

-- the session at a place
pub seen_at : (made : Lines → Octets) (seats : List LinedSeat) (at : ℕ) (seat : LinedSeat) → seat ≡ get_or seats at seat
    → get_or (all_seen made seats) at (seen made seat) ≡ seen made seat
seen_at made seats at seat is = get_or-map (seen made) seats at seat ∙ ap (seen made) (sym is)

pub seen_place : (made : Lines → Octets) (seats : List LinedSeat) (at sid : ℕ)
    → (s : LinedSeat) × (slice_get seats at ≡ Some s) × (s.number ≡ sid)
    → (s : Seat) × (slice_get (all_seen made seats) at ≡ Some s) × (s.number ≡ sid)
seen_place made seats at sid found = (
  seen made found.0,
  slice_get-map (seen made) seats at ∙ ap (option_map (seen made)) found.1,
  found.2,
)

-- the sessions without the one at a place
pub seen_without : (made : Lines → Octets) (seats : List LinedSeat) (at : ℕ)
    → all_seen made (take at seats ++ drop (suc at) seats) ≡ take at (all_seen made seats) ++ drop (suc at) (all_seen made seats)
seen_without made seats at =
    map-append (seen made) (take at seats) (drop (suc at) seats)
    ∙ (λ i. sym (take-map (seen made) at seats) i ++ sym (drop-map (seen made) (suc at) seats) i)

pub lined_without : (keeps : Lines → Type 0) (seats : List LinedSeat) (at : ℕ) → AllAreLined keeps seats
    → AllAreLined keeps (take at seats ++ drop (suc at) seats)
lined_without keeps seats at lined =
    All-append (SeatIsLined keeps) (take at seats) (drop (suc at) seats) (All-take (SeatIsLined keeps) at seats lined)
    (All-drop (SeatIsLined keeps) (suc at) seats lined)

-- the session with a number
pub find_seen : (made : Lines → Octets) (seats : List LinedSeat) (sid : ℕ)
    → find (λ (s : Seat). s.number == sid) (all_seen made seats) ≡ option_map (seen made) (find (λ (s : LinedSeat). s.number == sid) seats)
find_seen made [] sid = refl
find_seen made (seat ∷ seats) sid = go (seat.number == sid) (find_seen made seats sid)
  where
    go : (b : Bool)
        → find (λ (s : Seat). s.number == sid) (all_seen made seats) ≡ option_map (seen made)
        (find (λ (s : LinedSeat). s.number == sid) seats)
        → (if b then Some (seen made seat) else find (λ (s : Seat). s.number == sid) (all_seen made seats))
        ≡ option_map (seen made) (if b then Some seat else find (λ (s : LinedSeat). s.number == sid) seats)
    go true later = refl
    go false later = later
