use Rattle.std.proofs.Common.{◌≡◌, List, ap, refl, sym, subst, ◌∙◌}
use Rattle.std.specs.Prelude.{Some, None, ◌==◌, filter, find, not, option_map, slice_get}
use Rattle.kernel.specs.Kept.{IsKept}
use Rattle.kernel.specs.Kernel.{KernelView, left}
use Rattle.kernel_seats.specs.Lined.{RiseAbove, AllAreLined, LinedSeat, all_seen, seen}
use Rattle.kernel_seats.specs.Seats.{Seat}
use Rattle.kernel_seats.proofs.Halving.{rise_kept}
use Rattle.kernel_seats.proofs.Seeing.{find_seen, lined_without, seen_place, seen_without}
use Rattle.spool_texts.specs.Parts.{HasLines, lines_of}
use Rattle.kernel.specs.Stored.{kernel_of, seen_kernel}
use Rattle.kernel.proofs.KernelLaws.{filter_missing, kept_left}
use Rattle.kernel_seats.proofs.SeatsLaws.{filter_at}
use Rattle.kernel.proofs.Kernel.leave.Goals as goal

pub position-requires : goal.position-requires
position-requires c = record {
  rising = subst (RiseAbove 0) (sym c.deref.ensures.value)
      (rise_kept (lines_of c.self.inside.spool.changes) 0 c.self.inside.seats.items c.self.invariant.seen.rising);
}

pub invariant_of-self : goal.invariant_of-self
invariant_of-self c =
    let s = c.self.inside.spool in
    let made = lines_of s.changes in
    let seats : List LinedSeat = c.self.inside.seats.items in
    let at = c.in-Some.at in
    let found = seen_place made seats at c.args.sid
    (subst (λ (xs : List LinedSeat). (x : LinedSeat) × (slice_get xs at ≡ Some x) × (x.number ≡ c.args.sid))
    c.deref.ensures.value c.in-Some.ensures.some) in
    let rest : all_seen made c.remove.new.self.items ≡ filter (λ (x : Seat). not (x.number == found.0.number)) (all_seen made seats) =
    ap (all_seen made) c.remove.ensures.items ∙ seen_without made seats at
    ∙ filter_at 0 at (all_seen made seats) found.0 c.self.invariant.seen.rising found.1 in
    record {
      seen = subst (λ (after : List Seat). IsKept
          (kernel_of s c.self.inside.durable c.self.inside.in_flight c.self.inside.halted c.self.inside.most c.self.inside.joined after))
          (sym rest)
          (kept_left s c.self.inside.durable c.self.inside.in_flight c.self.inside.halted c.self.inside.most c.self.inside.joined
          (all_seen made seats)
          (λ (x : Seat). not (x.number == found.0.number)) c.self.invariant.seen);
      lined = subst (AllAreLined (HasLines s.changes)) (sym c.remove.ensures.items)
          (lined_without (HasLines s.changes) seats at c.self.invariant.lined);
    }

pub returns-in-Some : goal.returns-in-Some
returns-in-Some c =
    let s = c.self.inside.spool in
    let made = lines_of s.changes in
    let seats : List LinedSeat = c.self.inside.seats.items in
    let at = c.in-Some.at in
    let found = seen_place made seats at c.args.sid
    (subst (λ (xs : List LinedSeat). (x : LinedSeat) × (slice_get xs at ≡ Some x) × (x.number ≡ c.args.sid))
    c.deref.ensures.value c.in-Some.ensures.some) in
    let rest : all_seen made c.remove.new.self.items ≡ filter (λ (x : Seat). not (x.number == found.0.number)) (all_seen made seats) =
    ap (all_seen made) c.remove.ensures.items ∙ seen_without made seats at
    ∙ filter_at 0 at (all_seen made seats) found.0 c.self.invariant.seen.rising found.1 in
    let now : KernelView = seen_kernel s c.self.inside.durable c.self.inside.in_flight c.self.inside.halted c.self.inside.most
    c.self.inside.joined seats in
    (λ i. kernel_of s c.self.inside.durable c.self.inside.in_flight c.self.inside.halted c.self.inside.most c.self.inside.joined (rest i))
    ∙ (ap (left now) found.2 ∙ ap (λ (k : KernelView). left k c.args.sid) c.self.view_is)

pub returns-in_default : goal.returns-in_default
returns-in_default c =
    let s = c.self.inside.spool in
    let made = lines_of s.changes in
    let seats : List LinedSeat = c.self.inside.seats.items in
    let none : find (λ (x : Seat). x.number == c.args.sid) (all_seen made seats) ≡ None =
    find_seen made seats c.args.sid
    ∙ ap (option_map (seen made)) (subst (λ (xs : List LinedSeat). find (λ (x : LinedSeat). x.number == c.args.sid) xs ≡ None)
    c.deref.ensures.value (c.in_default.ensures.none refl)) in
    sym c.self.view_is ∙ (λ i. kernel_of s c.self.inside.durable c.self.inside.in_flight c.self.inside.halted c.self.inside.most
    c.self.inside.joined (sym (filter_missing c.args.sid (all_seen made seats) none) i))
    ∙ ap (λ (k : KernelView). left k c.args.sid) c.self.view_is
