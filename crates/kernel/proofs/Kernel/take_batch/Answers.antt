use Rattle.std.proofs.Common.{◌≢◌, List, arith, ap, length, subst, sym, ◌∙◌}
use Rattle.std.specs.Prelude.{Some}
use Rattle.model.specs.Volume.{blocks_from}
use Rattle.kernel.specs.Kernel.{KernelView, Takes}
use Rattle.kernel.specs.Stored.{kernel_of}
use Rattle.kernel_seats.specs.Lined.{all_seen}
use Rattle.kernel_seats.specs.Seats.{Seat}
use Rattle.spool.specs.View.{SpoolView}
use Rattle.spool_texts.specs.Parts.{lines_of}
use Rattle.kernel.proofs.TakingLaws.{images_are, takes_dirty}
use Rattle.kernel_shared.specs.declared.ticket.Ticket.{Ticket}
use Rattle.kernel.proofs.Kernel.take_batch.Goals as goal

pub returns-clause-takes : goal.returns-clause-takes
returns-clause-takes c =
    let new : KernelView = kernel_of c.copy_dirty.new.self c.self.inside.durable
    (Some c.len-last.result) c.self.inside.halted c.self.inside.most c.self.inside.joined (all_seen (lines_of c.self.inside.spool.changes)
    c.self.inside.seats.items) in
    let some : length c.self.inside.spool.dirty ≢ 0 = λ none. c.if-dirty_len-eq0.false (c.dirty_len.ensures ∙ none) in
    let images = blocks_from 0 (length c.copy_dirty.new.into.numbers) c.copy_dirty.new.into.images in
    let taken =
    subst (λ (old : KernelView). Takes old new c.copy_dirty.new.into.numbers images c.len-last.result) c.self.view_is
    (takes_dirty c.self.inside.spool c.copy_dirty.new.self c.self.inside.durable c.self.inside.in_flight c.self.inside.halted
    c.self.inside.most c.self.inside.joined (all_seen (lines_of c.self.inside.spool.changes) c.self.inside.seats.items)
    c.copy_dirty.new.into.numbers
    c.copy_dirty.new.into.images c.len-last.result some
    c.len-last.ensures
    c.kept.ensures c.copy_dirty.ensures.numbers c.copy_dirty.ensures.images c.copy_dirty.ensures.laid c.copy_dirty.ensures.clean
    c.self.invariant.seen) in
    subst (λ (after : List Seat). Takes c.args.self.now (kernel_of c.copy_dirty.new.self c.self.inside.durable
    (Some c.len-last.result) c.self.inside.halted c.self.inside.most c.self.inside.joined after) c.copy_dirty.new.into.numbers images
    c.new.result.last)
    (ap (λ (r : SpoolView). all_seen (lines_of r.changes) c.self.inside.seats.items) (sym c.copy_dirty.ensures.clean))
    (subst (λ (t : Ticket). Takes c.args.self.now new c.copy_dirty.new.into.numbers images t.last) (sym c.new.ensures) taken)

pub returns-clause-size : goal.returns-clause-size
returns-clause-size c = λ some.
    let sizes = images_are c.self.inside.spool c.copy_dirty.new.into.images c.kept.ensures c.self.invariant.seen.below
    c.copy_dirty.ensures.images in
    omega (arith, sizes.0, ap length c.copy_dirty.ensures.numbers)
