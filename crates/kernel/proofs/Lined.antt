-- The lines that sessions hold stay what they are while the spool grows.
use Rattle.std.proofs.Common.{◌≡◌, ℕ, zero, suc, List, [], ◌∷◌, ◌++◌, refl, ap, arith, get_or, set, subst, sym, ◌∙◌}
use Rattle.std.specs.Prelude.{Option, Some, None, All, IfSome, slice_get}
use Rattle.std.specs.Option.{option_to_list}
use Rattle.std.proofs.lemmas.List.{map-set}
use Rattle.std.proofs.lemmas.List.Elements.{All-head, All-tail, All-weaker}
use Rattle.std.proofs.lemmas.Option.{slice_get_within}
use Rattle.model.specs.Spool.{Spool}
use Rattle.model.specs.Stream.{Octets}
use Rattle.model.specs.declared.change.Change.{Change}
use Rattle.kernel_outbox.specs.Lines.{AllAreKept, HeldReply, IsKept, Reply, outputs_of, whole, with_lines}
use Rattle.kernel_outbox.specs.declared.made_lines.Lines.{Lines}
use Rattle.kernel_outbox.specs.Queue.{HeldOutput}
use Rattle.kernel_seats.specs.Lined.{AllAreLined, LinedSeat, SeatIsLined, all_seen, begun, seen}
use Rattle.kernel_seats.specs.Seats.{Seat}
use Rattle.spool.specs.View.{SpoolView}
use Rattle.spool.proofs.Staying.{Stay, lines_stay}
use Rattle.spool_texts.specs.Parts.{HasLines, lines_of}
use Rattle.kernel.specs.Serving.{Grows}
use Rattle.kernel.proofs.KernelLaws.{Grown, grown}

module _ (S R more : Spool) (is : R ≡ S ++ more) where
  -- lines of a reply
  stays : (octets : Octets) (lines : Option Lines) → IfSome lines (HasLines S)
      → with_lines (lines_of R) octets lines ≡ with_lines (lines_of S) octets lines
  stays octets None has = refl
  stays octets (Some lines) has = ap (λ (os : Octets). octets ++ os) (lines_stay S R more lines is has).same

  still_has : (lines : Option Lines) → IfSome lines (HasLines S) → IfSome lines (HasLines R)
  still_has None has = tt
  still_has (Some lines) has = (lines_stay S R more lines is has).has

  -- of the outputs of a session
  outputs_stay : (held : List HeldReply) → AllAreKept (HasLines S) held → outputs_of (lines_of R) held ≡ outputs_of (lines_of S) held
  outputs_stay [] has = refl
  outputs_stay (h ∷ rest) has =
      λ i. record {
        octets = stays h.reply.octets h.reply.lines (All-head (λ (x : HeldReply). IsKept (HasLines S) x.reply) h rest has) i;
        dependency = h.dependency;
        ends = h.ends;
      } ∷ outputs_stay rest (All-tail (λ (x : HeldReply). IsKept (HasLines S) x.reply) h rest has) i

  pub seat_stays : (seat : LinedSeat) → SeatIsLined (HasLines S) seat → seen (lines_of R) seat ≡ seen (lines_of S) seat
  seat_stays seat has = λ i. record {
    number = seat.number;
    session = seat.session;
    given = seat.given;
    held = outputs_stay seat.held has i;
  }

  pub seat_still_lined : (seat : LinedSeat) → SeatIsLined (HasLines S) seat → SeatIsLined (HasLines R) seat
  seat_still_lined seat has =
      All-weaker (λ (x : HeldReply). IsKept (HasLines S) x.reply) (λ (x : HeldReply). IsKept (HasLines R) x.reply)
      (λ (x : HeldReply) (h : IsKept (HasLines S) x.reply). still_has x.reply.lines h) seat.held has

  -- of all sessions
  pub seats_stay : (seats : List LinedSeat) → AllAreLined (HasLines S) seats → all_seen (lines_of R) seats ≡ all_seen (lines_of S) seats
  seats_stay [] has = refl
  seats_stay (seat ∷ seats) has =
      λ i. seat_stays seat (All-head (SeatIsLined (HasLines S)) seat seats has) i
      ∷ seats_stay seats (All-tail (SeatIsLined (HasLines S)) seat seats has) i

  pub still_lined : (seats : List LinedSeat) → AllAreLined (HasLines S) seats → AllAreLined (HasLines R) seats
  still_lined seats has = All-weaker (SeatIsLined (HasLines S)) (SeatIsLined (HasLines R)) seat_still_lined seats has

-- where the spool grew by the change of an answer, or by none
pub seen_grown : (s s' : SpoolView) (c : Option Change) (seats : List LinedSeat) → Grows s s' c → AllAreLined (HasLines s.changes) seats
    → all_seen (lines_of s'.changes) seats ≡ all_seen (lines_of s.changes) seats
seen_grown s s' c seats grows lined = seats_stay s.changes s'.changes (option_to_list c) (grown s s' c grows).changes seats lined

pub lined_grown : (s s' : SpoolView) (c : Option Change) (seats : List LinedSeat) → Grows s s' c → AllAreLined (HasLines s.changes) seats
    → AllAreLined (HasLines s'.changes) seats
lined_grown s s' c seats grows lined = still_lined s.changes s'.changes (option_to_list c) (grown s s' c grows).changes seats lined

-- a session that has just begun holds no lines
pub begun_is_lined : (keeps : Lines → Type 0) (host : Octets) (number : ℕ) → SeatIsLined keeps (begun host number)
begun_is_lined keeps host number zero d below = tt
begun_is_lined keeps host number (suc k) d below = absurd (omega arith)

-- another session in the place of one, where the spool grew by the change of an answer, or by none
pub seen_set : (s s' : SpoolView) (c : Option Change) (seats : List LinedSeat) (at : ℕ) (seat : LinedSeat) → Grows s s' c
    → AllAreLined (HasLines s.changes) seats
    → all_seen (lines_of s'.changes) (set seats at seat) ≡ set (all_seen (lines_of s.changes) seats) at (seen (lines_of s'.changes) seat)
seen_set s s' c seats at seat grows lined =
    map-set (seen (lines_of s'.changes)) seats at seat
    ∙ ap (λ (ss : List Seat). set ss at (seen (lines_of s'.changes) seat)) (seen_grown s s' c seats grows lined)

-- the session at a place has its lines
pub lined_at : (keeps : Lines → Type 0) (seats read : List LinedSeat) (at sid : ℕ) (seat : LinedSeat) → AllAreLined keeps seats
    → read ≡ seats → (x : LinedSeat) × (slice_get read at ≡ Some x) × (x.number ≡ sid) → seat ≡ get_or seats at seat → SeatIsLined keeps
    seat
lined_at keeps seats read at sid seat lined same found is =
    subst (SeatIsLined keeps) (sym is)
    (lined at seat (slice_get_within seats at found.0 (subst (λ (xs : List LinedSeat). slice_get xs at ≡ Some found.0) same found.1)))
