use Rattle.std.proofs.Common.{◌≡◌, List, ap, arith, refl, sym, subst, ◌∙◌}
use Rattle.std.specs.Prelude.{Some, None, ◌==◌, find, option_map, slice_get}
use Rattle.std.proofs.lemmas.Option.{slice_get_within}
use Rattle.kernel.specs.Kernel.{KernelView, mode_at}
use Rattle.kernel_seats.specs.Lined.{RiseAbove, LinedSeat, all_seen, seen}
use Rattle.kernel_seats.specs.Seats.{Seat}
use Rattle.kernel_seats.proofs.Halving.{rise_kept}
use Rattle.kernel_seats.proofs.Seeing.{find_seen, seen_at, seen_place}
use Rattle.spool_texts.specs.Parts.{lines_of}
use Rattle.kernel.specs.Stored.{seen_kernel}
use Rattle.kernel.proofs.KernelLaws.{mode_found, mode_missing, same_place}
use Rattle.model.specs.Service.{mode_of}
use Rattle.kernel.proofs.Kernel.mode.Goals as goal

pub position-requires : goal.position-requires
position-requires c = record {
  rising = subst (RiseAbove 0) (sym c.deref.ensures.value)
      (rise_kept (lines_of c.self.inside.spool.changes) 0 c.self.inside.seats.items c.self.invariant.seen.rising);
}

pub returns-in_err-at : goal.returns-in_err-at
returns-in_err-at c =
    let made = lines_of c.self.inside.spool.changes in
    let seats : List LinedSeat = c.self.inside.seats.items in
    let k : KernelView = seen_kernel c.self.inside.spool c.self.inside.durable c.self.inside.in_flight c.self.inside.halted
    c.self.inside.most c.self.inside.joined seats in
    let none : find (λ (s : Seat). s.number == c.args.sid) (all_seen made seats) ≡ None =
    find_seen made seats c.args.sid
    ∙ ap (option_map (seen made)) (subst (λ (xs : List LinedSeat). find (λ (s : LinedSeat). s.number == c.args.sid) xs ≡ None)
    c.deref.ensures.value (c.in_err-at.ensures.none refl)) in
    c.from_residual.ensures ∙ sym (mode_missing k c.args.sid none) ∙ ap (λ (k : KernelView). mode_at k c.args.sid) c.self.view_is

pub index-requires : goal.index-requires
index-requires c =
    let seats : List LinedSeat = c.self.inside.seats.items in
    let read = subst (λ (xs : List LinedSeat). (s : LinedSeat) × (slice_get xs c.in_ok-at.at ≡ Some s) × (s.number ≡ c.args.sid))
    c.deref.ensures.value c.in_ok-at.ensures.some in
    omega (arith, slice_get_within seats c.in_ok-at.at read.0 read.1, c.self.inside.seats.ok.0)

pub returns : goal.returns
returns c =
    let made = lines_of c.self.inside.spool.changes in
    let seats : List LinedSeat = c.self.inside.seats.items in
    let at = c.in_ok-at.at in
    let read = subst (λ (xs : List LinedSeat). (s : LinedSeat) × (slice_get xs at ≡ Some s) × (s.number ≡ c.args.sid))
    c.deref.ensures.value c.in_ok-at.ensures.some in
    let found = seen_place made seats at c.args.sid read in
    let seat : Seat = found.0 in
    let k : KernelView = seen_kernel c.self.inside.spool c.self.inside.durable c.self.inside.in_flight c.self.inside.halted
    c.self.inside.most c.self.inside.joined seats in
    let same : seen made c.index.result.now ≡ seat =
    same_place at (all_seen made seats) (seen made c.index.result.now) seat found.1 (sym (seen_at made seats at c.index.result.now
    c.index.ensures)) in
    c.mode.ensures ∙ (ap (λ (s : Seat). mode_of s.session.awaits) same
    ∙ (sym (mode_found k at seat c.self.invariant.seen.rising found.1)
    ∙ (ap (mode_at k) found.2 ∙ ap (λ (k : KernelView). mode_at k c.args.sid) c.self.view_is)))
