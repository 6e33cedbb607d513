use Rattle.std.proofs.Common.{◌≡◌, ℕ, zero, suc, Bool, true, false, List, [], ◌∷◌, Some, None, ap, refl, sym, subst, ◌∙◌}
use Rattle.std.specs.Prelude.{◌==◌, find, is_some, option_map, slice_get, if◌then◌else◌}
use Rattle.std.proofs.lemmas.Bool.{eq-eqb}
use Rattle.kernel.specs.Kernel.{KernelView, seat_of}
use Rattle.kernel_seats.specs.Lined.{RiseAbove, LinedSeat, all_seen, seen}
use Rattle.kernel_seats.specs.Seats.{Seat}
use Rattle.kernel_seats.proofs.Halving.{rise_kept}
use Rattle.kernel_seats.proofs.Seeing.{find_seen, seen_place}
use Rattle.spool_texts.specs.Parts.{lines_of}
use Rattle.kernel.proofs.Kernel.has.Goals as goal

pub position-requires : goal.position-requires
position-requires c = record {
  rising = subst (RiseAbove 0) (sym c.deref.ensures.value)
      (rise_kept (lines_of c.self.inside.spool.changes) 0 c.self.inside.seats.items c.self.invariant.seen.rising);
}

found_some : (seats : List Seat) (at sid : ℕ) (seat : Seat) → slice_get seats at ≡ Some seat → seat.number ≡ sid
    → is_some (find (λ (s : Seat). s.number == sid) seats) ≡ true
found_some [] at sid seat is same = absurd (cc is)
found_some (first ∷ seats) zero sid seat is same =
    let one : first ≡ seat = cc is in
    let own : (first.number == sid) ≡ true = eq-eqb first.number sid (ap (λ (s : Seat). s.number) one ∙ same) in
    ap (λ b. is_some (if b then Some first else find (λ (s : Seat). s.number == sid) seats)) own
found_some (first ∷ seats) (suc at) sid seat is same = go (first.number == sid) (found_some seats at sid seat is same)
  where
    go : (b : Bool) → is_some (find (λ (s : Seat). s.number == sid) seats) ≡ true
        → is_some (if b then Some first else find (λ (s : Seat). s.number == sid) seats) ≡ true
    go true later = refl
    go false later = later

pub returns-in-Some : goal.returns-in-Some
returns-in-Some c =
    let made = lines_of c.self.inside.spool.changes in
    let seats : List LinedSeat = c.self.inside.seats.items in
    let at = c.in-Some._at in
    let found = seen_place made seats at c.args.sid
    (subst (λ (xs : List LinedSeat). (s : LinedSeat) × (slice_get xs at ≡ Some s) × (s.number ≡ c.args.sid))
    c.deref.ensures.value c.in-Some.ensures.some) in
    sym (subst (λ (k : KernelView). is_some (seat_of k c.args.sid) ≡ true) c.self.view_is
    (found_some (all_seen made seats) at c.args.sid found.0 found.1 found.2))

pub returns-in-None : goal.returns-in-None
returns-in-None c =
    let made = lines_of c.self.inside.spool.changes in
    let seats : List LinedSeat = c.self.inside.seats.items in
    let none : find (λ (s : LinedSeat). s.number == c.args.sid) seats ≡ None =
    subst (λ (xs : List LinedSeat). find (λ (s : LinedSeat). s.number == c.args.sid) xs ≡ None) c.deref.ensures.value
    (c.in-None.ensures.none refl) in
    sym (subst (λ (k : KernelView). is_some (seat_of k c.args.sid) ≡ false) c.self.view_is
    (ap is_some (find_seen made seats c.args.sid ∙ ap (option_map (seen made)) none)))
