use Rattle.std.proofs.Common.{◌++◌, List, ap, sym, subst, ◌∙◌}
use Rattle.kernel.specs.Kept.{IsKept}
use Rattle.kernel.specs.Kernel.{KernelView, released_of}
use Rattle.kernel_seats.specs.Lined.{all_seen}
use Rattle.kernel_seats.specs.Seats.{Seat, ready_of}
use Rattle.spool_texts.specs.Parts.{lines_of}
use Rattle.kernel.specs.Stored.{kernel_of}
use Rattle.kernel.proofs.KernelLaws.{kept_gave}
use Rattle.kernel.proofs.Kernel.give_ready.Goals as goal

pub release_of-requires-clause-rising : goal.release_of-requires-clause-rising
release_of-requires-clause-rising c = c.self.invariant.seen.rising

pub release_of-requires-clause-lined : goal.release_of-requires-clause-lined
release_of-requires-clause-lined c = c.self.invariant.lined

pub invariant_of-self : goal.invariant_of-self
invariant_of-self c =
    let s = c.self.inside.spool in
    record {
      seen = subst (λ (seats : List Seat). IsKept
          (kernel_of s c.self.inside.durable c.self.inside.in_flight c.self.inside.halted c.self.inside.most c.self.inside.joined seats))
          (sym c.release_of.ensures.kept)
          (kept_gave s c.self.inside.durable c.self.inside.in_flight c.self.inside.halted c.self.inside.most c.self.inside.joined
          (all_seen (lines_of s.changes) c.self.inside.seats.items) c.args.into.now c.args.sid c.self.invariant.seen);
      lined = c.release_of.ensures.lined;
    }

pub returns-clause-given : goal.returns-clause-given
returns-clause-given c = c.release_of.ensures.given
    ∙ ap (λ (k : KernelView). c.args.into.now ++ (ready_of k.durable c.args.into.now c.args.sid k.seats).entries) c.self.view_is

pub returns-clause-kept : goal.returns-clause-kept
returns-clause-kept c =
    (λ i. kernel_of c.self.inside.spool c.self.inside.durable c.self.inside.in_flight c.self.inside.halted c.self.inside.most
    c.self.inside.joined (c.release_of.ensures.kept i))
    ∙ ap (λ (k : KernelView). released_of k c.args.into.now c.args.sid) c.self.view_is

pub returns-clause-holds : goal.returns-clause-holds
returns-clause-holds c = c.release_of.ensures.holds
