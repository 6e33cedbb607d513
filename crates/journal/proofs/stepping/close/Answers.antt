use Rattle.std.proofs.Common.{◌≡◌, ℕ, ◌*◌, Bool, true, false, cond, eqb, [], ◌∷◌, length, sym, ◌∙◌, ap, subst}
use Rattle.disk.specs.Calls.{Call, Does}
use Rattle.journal_laws.specs.Held.{HeldBatch}
use Rattle.model.specs.Volume.{gate_place, other_epoch}
use Rattle.journal_segments.specs.Staged.{Staged, held_as, staged_at}
use Rattle.journal.specs.Flight.{all_of, flight_in, held_at}
use Rattle.journal.proofs.Flights.{held_in_room, length-all}
use Rattle.journal.proofs.Made.{does_as}
use Rattle.journal.proofs.stepping.close.Goals as goal

pub returns-then-are_all : goal.returns-then-are_all
returns-then-are_all g c =
    let room = c.args.room.now.items in
    let gate = Call.Write (4096 * gate_place (held_at (all_of (flight_in room c.args.filled true)) c.args.j).place) (0 ∷ []) in
    let all : eqb (length (all_of (flight_in room c.args.filled true))) (length room) ≡ true =
    ap (λ (k : ℕ). eqb k (length room)) (length-all room c.args.filled true c.requires.there) ∙ sym c.are_all.ensures ∙ c.if-are_all.true in
    subst (λ (b : Bool). Does g.D.Disk.write_grows g.D.Disk.sync_grows
    (cond b (Call.Write 150 (other_epoch c.args.epoch ∷ [])) gate) c.write_epoch.result (g.D.Disk.device c.args.disk.now)
    (g.D.Disk.device c.write_epoch.new.disk)) (sym all)
    (does_as g.D.Disk.write_grows g.D.Disk.sync_grows (λ (e : ℕ). Call.Write 150 (e ∷ [])) c.other_epoch.result (other_epoch c.args.epoch)
    c.write_epoch.result _ _ c.other_epoch.ensures c.write_epoch.ensures)

pub returns-else-are_all : goal.returns-else-are_all
returns-else-are_all g c =
    let room = c.args.room.now.items in
    let j = c.args.j in
    let epoch = Call.Write 150 (other_epoch c.args.epoch ∷ []) in
    let each : eqb (length (all_of (flight_in room c.args.filled true))) (length room) ≡ false =
    ap (λ (k : ℕ). eqb k (length room)) (length-all room c.args.filled true c.requires.there) ∙ sym c.are_all.ensures
    ∙ c.if-are_all.false in
    subst (λ (b : Bool). Does g.D.Disk.write_grows g.D.Disk.sync_grows
    (cond b epoch (Call.Write (4096 * gate_place (held_at (all_of (flight_in room c.args.filled true)) j).place) (0 ∷ [])))
    c.write_gate.result (g.D.Disk.device c.args.disk.now) (g.D.Disk.device c.write_gate.new.disk)) (sym each)
    (does_as g.D.Disk.write_grows g.D.Disk.sync_grows (λ (h : HeldBatch). Call.Write (4096 * gate_place h.place) (0 ∷ []))
    (held_as (staged_at room j)) _ c.write_gate.result _ _
    (sym (held_in_room room c.args.filled true c.requires.there j c.requires.gate.0))
    (does_as g.D.Disk.write_grows g.D.Disk.sync_grows (λ (s : Staged). Call.Write (4096 * gate_place s.place) (0 ∷ []))
    c.segment_at.result.now (staged_at room j) c.write_gate.result _ _ c.segment_at.ensures c.write_gate.ensures))
