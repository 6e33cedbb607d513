use Rattle.std.proofs.Common.{sym, subst, arith, ap, ◌∙◌}
use Rattle.std.specs.Prelude.{List, length}
use Rattle.std.proofs.lemmas.List.{length-map}
use Rattle.kernel.specs.Kept.{IsKept}
use Rattle.kernel_seats.specs.Lined.{all_seen, seen}
use Rattle.kernel_seats.specs.Seats.{Seat}
use Rattle.spool_texts.specs.Parts.{lines_of}
use Rattle.kernel.specs.Stored.{kernel_of}
use Rattle.kernel.proofs.KernelLaws.{kept_released}
use Rattle.kernel.proofs.Kernel.take_ready.Goals as goal

pub release-requires-clause-few : goal.release-requires-clause-few
release-requires-clause-few c =
    omega (
      arith,
      c.self.invariant.seen.few_seats,
      c.self.invariant.seen.few,
      length-map c.self.inside.seats.items (seen (lines_of c.self.inside.spool.changes)),
    )

pub release-requires-clause-lined : goal.release-requires-clause-lined
release-requires-clause-lined c = c.self.invariant.lined

pub invariant_of-self : goal.invariant_of-self
invariant_of-self c =
    let s = c.self.inside.spool in
    record {
      seen = subst (λ (seats : List Seat). IsKept
          (kernel_of s c.self.inside.durable c.self.inside.in_flight c.self.inside.halted c.self.inside.most c.self.inside.joined seats))
          (sym c.release.ensures.kept)
          (kept_released s c.self.inside.durable c.self.inside.in_flight c.self.inside.halted c.self.inside.most c.self.inside.joined
          (all_seen (lines_of s.changes) c.self.inside.seats.items) c.self.invariant.seen);
      lined = c.release.ensures.lined;
    }
