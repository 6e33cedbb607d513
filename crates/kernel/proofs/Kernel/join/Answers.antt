use Rattle.std.proofs.Common.{◌≡◌, ◌<◌, ◌++◌, ◌∷◌, [], length, sym, subst, ap, arith, ◌∙◌, ◌+◌}
use Rattle.std.specs.Prelude.{List, All}
use Rattle.std.proofs.lemmas.List.{map-append}
use Rattle.std.proofs.lemmas.List.Elements.{All-push}
use Rattle.model.specs.Stream.{Octets}
use Rattle.kernel.specs.Kept.{IsKept}
use Rattle.kernel.specs.Errors.{of_join}
use Rattle.kernel.specs.Kernel.{KernelView, join_refusal}
use Rattle.kernel_seats.specs.Lined.{AllAreLined, LinedSeat, SeatIsLined, all_seen, begun, seen}
use Rattle.kernel_seats.specs.Seats.{Seat, new_seat}
use Rattle.spool_texts.specs.Parts.{HasLines, lines_of}
use Rattle.kernel.specs.Stored.{kernel_of}
use Rattle.kernel.proofs.AdminLaws.{few_seats, passed}
use Rattle.kernel.proofs.KernelLaws.{kept_joined}
use Rattle.kernel.proofs.Lined.{begun_is_lined}
use Rattle.kernel.proofs.Kernel.join.Goals as goal

pub invariant_of-self : goal.invariant_of-self
invariant_of-self c =
    let s = c.self.inside.spool in
    let made = lines_of s.changes in
    let seats : List LinedSeat = c.self.inside.seats.items in
    let new : LinedSeat = c.in-Ok.seat in
    let is : new ≡ begun s.host (c.self.inside.joined + 1) =
    c.in-Ok.ensures ∙ ap (λ (host : Octets). begun host (c.self.inside.joined + 1)) c.host.ensures in
    let few : length c.args.self.now.seats < c.args.self.now.most =
    few_seats c.args.self.now (passed of_join (join_refusal c.args.self.now) c.in_ok-may_join.field-0 c.in_ok-may_join.ensures) in
    let same : length (all_seen made seats) ≡ length c.args.self.now.seats = ap (λ (k : KernelView). length k.seats) c.self.view_is in
    let most : c.self.inside.most ≡ c.args.self.now.most = ap (λ (k : KernelView). k.most) c.self.view_is in
    record {
      seen = subst (λ (after : List Seat). IsKept
          (kernel_of s c.self.inside.durable c.self.inside.in_flight c.self.inside.halted c.self.inside.most (c.self.inside.joined + 1)
          after))
          (sym (ap (all_seen made) c.in-Ok-push.ensures.items ∙ map-append (seen made) seats (new ∷ [])))
          (kept_joined s c.self.inside.durable c.self.inside.in_flight c.self.inside.halted c.self.inside.most c.self.inside.joined
          (all_seen made seats)
          (seen made new) (ap (seen made) is) (omega arith) c.self.invariant.seen);
      lined = subst (AllAreLined (HasLines s.changes)) (sym c.in-Ok-push.ensures.items)
          (All-push (SeatIsLined (HasLines s.changes)) seats new c.self.invariant.lined
          (subst (SeatIsLined (HasLines s.changes)) (sym is)
          (begun_is_lined (HasLines s.changes) s.host (c.self.inside.joined + 1))));
    }
