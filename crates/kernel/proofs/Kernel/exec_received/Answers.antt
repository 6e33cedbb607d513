use Rattle.std.proofs.Common.{◌≡◌, List, refl, ap, sym, subst, ◌∙◌, arith}
use Rattle.std.specs.Prelude.{Err, None, Some, find, ◌==◌, option_map, slice_get}
use Rattle.std.proofs.lemmas.Option.{slice_get_within}
use Rattle.kernel_seats.specs.Lined.{LinedSeat, RiseAbove, all_seen, seen}
use Rattle.kernel_seats.specs.Seats.{Seat}
use Rattle.kernel_seats.proofs.Halving.{rise_kept}
use Rattle.kernel_seats.proofs.Seeing.{find_seen}
use Rattle.spool_texts.specs.Parts.{lines_of}
use Rattle.kernel.specs.Errors.{of_exec}
use Rattle.kernel.specs.Kernel.{Execs, KernelView, LaterDirty, LaterOut, NoSession, Tested, exec_refusal}
use Rattle.kernel.specs.Stored.{seen_kernel}
use Rattle.kernel_shared.specs.declared.errors.ExecError.TheVariants as exec
use Rattle.kernel.proofs.KernelLaws.{mode_missing}
use Rattle.kernel.proofs.ExecLaws.{awaits, case_of, closed, comes_late, held_many, keeps_on, kept_stopped, late_is, lawful, no_session}
use Rattle.kernel.proofs.ExecLaws.{out_of_memory, passes, passes_halted, refused, served, stopped, tested_refused, was}
use Rattle.kernel.proofs.Kernel.exec_received.Goals as goal

pub position-requires : goal.position-requires
position-requires c = record {
  rising = subst (RiseAbove 0) (sym c.deref.ensures.value)
      (rise_kept (lines_of c.self.inside.spool.changes) 0 c.self.inside.seats.items c.self.invariant.seen.rising);
}

pub returns-in_default : goal.returns-in_default
returns-in_default c =
    let made = lines_of c.self.inside.spool.changes in
    let items : List LinedSeat = c.self.inside.seats.items in
    let k : KernelView = seen_kernel c.self.inside.spool c.self.inside.durable c.self.inside.in_flight c.self.inside.halted
    c.self.inside.most c.self.inside.joined items in
    let none : find (λ (s : Seat). s.number == c.args.sid) (all_seen made items) ≡ None =
    find_seen made items c.args.sid
    ∙ ap (option_map (seen made)) (subst (λ (xs : List LinedSeat). find (λ (s : LinedSeat). s.number == c.args.sid) xs ≡ None)
    c.deref.ensures.value (c.in_default.ensures.none refl)) in
    subst (λ (o : KernelView). Tested of_exec exec.Memory (exec_refusal o c.args.sid c.args.received) o o (Err exec.NoSession)
    (Execs o o c.args.sid c.args.received c.args.moment)) c.self.view_is
    (tested_refused of_exec exec.Memory (exec_refusal k c.args.sid c.args.received) NoSession k k (Err exec.NoSession)
    (Execs k k c.args.sid c.args.received c.args.moment)
    (no_session k c.args.sid c.args.received (mode_missing k c.args.sid none)) refl refl)

pub index_mut-seat-requires : goal.index_mut-seat-requires
index_mut-seat-requires c =
    let items : List LinedSeat = c.self.inside.seats.items in
    let read = subst (λ (xs : List LinedSeat). (s : LinedSeat) × (slice_get xs c.in-Some.at ≡ Some s) × (s.number ≡ c.args.sid))
    c.deref.ensures.value c.in-Some.ensures.some in
    omega (arith, slice_get_within items c.in-Some.at read.0 read.1, c.self.inside.seats.ok.0)

pub returns-then-is_none : goal.returns-then-is_none
returns-then-is_none c =
    let k = case_of c.self.inside _ c.in-Some.at c.args.sid c.args.received c.args.moment c.index_mut-seat.result.now c.self.invariant
    c.deref.ensures.value c.in-Some.ensures.some c.index_mut-seat.ensures.value in
    refused k c.args.self.now NoSession c.self.view_is (no_session (was k) c.args.sid c.args.received
    (closed k c.is_none.result c.mode.result c.mode.ensures c.is_none.ensures c.if-is_none.true))

pub returns-then-buffered-ge-MOST_BUFFERED : goal.returns-then-buffered-ge-MOST_BUFFERED
returns-then-buffered-ge-MOST_BUFFERED c =
    let k = case_of c.self.inside _ c.in-Some.at c.args.sid c.args.received c.args.moment c.index_mut-seat.result.now c.self.invariant
    c.deref.ensures.value c.in-Some.ensures.some c.index_mut-seat.ensures.value in
    let awaited = awaits k c.is_none.result c.mode.result c.mode.ensures c.is_none.ensures c.if-is_none.false in
    refused k c.args.self.now LaterOut c.self.view_is (held_many k c.buffered.result awaited c.buffered.ensures (omega arith))

pub returns-in_default-stop : goal.returns-in_default-stop
returns-in_default-stop c =
    let k = case_of c.self.inside _ c.in-Some.at c.args.sid c.args.received c.args.moment c.index_mut-seat.result.now c.self.invariant
    c.deref.ensures.value c.in-Some.ensures.some c.index_mut-seat.ensures.value in
    let awaited = awaits k c.is_none.result c.mode.result c.mode.ensures c.is_none.ensures c.if-is_none.false in
    out_of_memory k c.args.self.now c.self.inside.spool c.stop.new.self c.self.view_is c.in_default-stop.ensures.seat refl
    (passes_halted k c.buffered.result awaited c.buffered.ensures (omega arith) c.if-self.true)

pub invariant_of-self-then-self : goal.invariant_of-self-then-self
invariant_of-self-then-self c =
    let k = case_of c.self.inside _ c.in-Some.at c.args.sid c.args.received c.args.moment c.index_mut-seat.result.now c.self.invariant
    c.deref.ensures.value c.in-Some.ensures.some c.index_mut-seat.ensures.value in
    kept_stopped k c.stop.new.self (awaits k c.is_none.result c.mode.result c.mode.ensures c.is_none.ensures c.if-is_none.false)
    c.in-Ok.ensures.ok

pub returns-then-self : goal.returns-then-self
returns-then-self c =
    let k = case_of c.self.inside _ c.in-Some.at c.args.sid c.args.received c.args.moment c.index_mut-seat.result.now c.self.invariant
    c.deref.ensures.value c.in-Some.ensures.some c.index_mut-seat.ensures.value in
    let awaited = awaits k c.is_none.result c.mode.result c.mode.ensures c.is_none.ensures c.if-is_none.false in
    stopped k c.args.self.now c.stop.new.self c.self.view_is c.if-self.true
    (passes_halted k c.buffered.result awaited c.buffered.ensures (omega arith) c.if-self.true) c.in-Ok.ensures.ok

pub returns-then-is_late : goal.returns-then-is_late
returns-then-is_late c =
    let k = case_of c.self.inside _ c.in-Some.at c.args.sid c.args.received c.args.moment c.index_mut-seat.result.now c.self.invariant
    c.deref.ensures.value c.in-Some.ensures.some c.index_mut-seat.ensures.value in
    let awaited = awaits k c.is_none.result c.mode.result c.mode.ensures c.is_none.ensures c.if-is_none.false in
    refused k c.args.self.now LaterDirty c.self.view_is (comes_late k c.buffered.result awaited c.buffered.ensures (omega arith)
    c.if-self.false (late_is k _ _ _ _ _ c.message.ensures c.blocks-2.ensures c.dirty_len.ensures c.is_late.ensures c.if-is_late.true))

pub serve-requires-clause-session : goal.serve-requires-clause-session
serve-requires-clause-session c =
    lawful (case_of c.self.inside _ c.in-Some.at c.args.sid c.args.received c.args.moment c.index_mut-seat.result.now c.self.invariant
    c.deref.ensures.value c.in-Some.ensures.some c.index_mut-seat.ensures.value)

pub returns-in_default-serve : goal.returns-in_default-serve
returns-in_default-serve c =
    let k = case_of c.self.inside _ c.in-Some.at c.args.sid c.args.received c.args.moment c.index_mut-seat.result.now c.self.invariant
    c.deref.ensures.value c.in-Some.ensures.some c.index_mut-seat.ensures.value in
    let awaited = awaits k c.is_none.result c.mode.result c.mode.ensures c.is_none.ensures c.if-is_none.false in
    let early = late_is k _ _ _ _ _ c.message.ensures c.blocks-2.ensures c.dirty_len.ensures c.is_late.ensures c.if-is_late.false in
    out_of_memory k c.args.self.now c.serve.new.spool c.serve.new.self c.self.view_is c.in_default-serve.ensures.seat
    c.in_default-serve.ensures.spool (passes k c.buffered.result awaited c.buffered.ensures (omega arith) c.if-self.false early)

pub invariant_of-self-2 : goal.invariant_of-self-2
invariant_of-self-2 c =
    let k = case_of c.self.inside _ c.in-Some.at c.args.sid c.args.received c.args.moment c.index_mut-seat.result.now c.self.invariant
    c.deref.ensures.value c.in-Some.ensures.some c.index_mut-seat.ensures.value in
    let awaited = awaits k c.is_none.result c.mode.result c.mode.ensures c.is_none.ensures c.if-is_none.false in
    let early = late_is k _ _ _ _ _ c.message.ensures c.blocks-2.ensures c.dirty_len.ensures c.is_late.ensures c.if-is_late.false in
    keeps_on k c.serve.new.spool c.serve.new.self c.in-Ok-serve.outcome c.in-Ok-serve.ensures.ok awaited early c.kept.ensures
    c.in-Ok-serve.ensures.lined

pub returns : goal.returns
returns c =
    let k = case_of c.self.inside _ c.in-Some.at c.args.sid c.args.received c.args.moment c.index_mut-seat.result.now c.self.invariant
    c.deref.ensures.value c.in-Some.ensures.some c.index_mut-seat.ensures.value in
    let awaited = awaits k c.is_none.result c.mode.result c.mode.ensures c.is_none.ensures c.if-is_none.false in
    let early = late_is k _ _ _ _ _ c.message.ensures c.blocks-2.ensures c.dirty_len.ensures c.is_late.ensures c.if-is_late.false in
    served k c.serve.new.spool c.serve.new.self c.in-Ok-serve.outcome c.in-Ok-serve.ensures.ok c.args.self.now c.self.view_is
    c.if-self.false (passes k c.buffered.result awaited c.buffered.ensures (omega arith) c.if-self.false early)
