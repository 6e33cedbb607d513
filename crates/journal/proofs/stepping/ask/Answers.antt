use Rattle.std.proofs.Common.{ℕ, ◌*◌, true, [], ◌∷◌, length, get_or, sym, arith}
use Rattle.disk.specs.Calls.{Call}
use Rattle.journal_laws.specs.Held.{HeldBatch}
use Rattle.model.specs.Volume.{descriptor_place, gate_place, home_place, image_place}
use Rattle.journal_segments.specs.Staged.{Staged, held_as, staged_at}
use Rattle.journal.proofs.Flights.{held_in_room}
use Rattle.journal.proofs.Made.{does_as}
use Rattle.journal.proofs.stepping.ask.Goals as goal

pub segment_at-requires-in-Home : goal.segment_at-requires-in-Home
segment_at-requires-in-Home g c = omega (arith, (c.requires.carried c.in-Home.j c.in-Home.i c.in-Home.is).0, c.requires.there)

pub returns-in-Descriptor-clause-does : goal.returns-in-Descriptor-clause-does
returns-in-Descriptor-clause-does g c =
    rw c.in-Descriptor.is
    (does_as g.D.Disk.write_grows g.D.Disk.sync_grows (λ (s : Staged). Call.Write (4096 * descriptor_place s.place) s.descriptor)
    c.segment_at.result.now
    (staged_at c.args.room.now.items c.args.filled) c.write_descriptor.result _ _ c.segment_at.ensures c.write_descriptor.ensures)

pub returns-in-Image-clause-does : goal.returns-in-Image-clause-does
returns-in-Image-clause-does g c =
    rw c.in-Image.is
    (does_as g.D.Disk.write_grows g.D.Disk.sync_grows (λ (s : Staged). Call.Write (4096 * image_place s.place c.in-Image.i)
    (get_or s.images c.in-Image.i []))
    c.segment_at-in-Image.result.now (staged_at c.args.room.now.items c.args.filled) c.write_image.result _ _
    c.segment_at-in-Image.ensures c.write_image.ensures)

pub returns-in-OpenGate-clause-does : goal.returns-in-OpenGate-clause-does
returns-in-OpenGate-clause-does g c =
    rw c.in-OpenGate.is
    (does_as g.D.Disk.write_grows g.D.Disk.sync_grows (λ (s : Staged). Call.Write (4096 * gate_place s.place) (c.args.epoch ∷ []))
    c.segment_at-in-OpenGate.result.now
    (staged_at c.args.room.now.items c.args.filled) c.write_gate.result _ _ c.segment_at-in-OpenGate.ensures c.write_gate.ensures)

pub returns-in-Home-clause-does : goal.returns-in-Home-clause-does
returns-in-Home-clause-does g c =
    let room = c.args.room.now.items in
    let j = c.in-Home.j in
    let here = (c.requires.carried c.in-Home.j c.in-Home.i c.in-Home.is).0 in
    rw c.in-Home.is
    (does_as g.D.Disk.write_grows g.D.Disk.sync_grows (λ (h : HeldBatch). Call.Write
    (4096 * home_place (length room) (get_or h.batch.numbers c.in-Home.i 0))
    (get_or h.batch.images c.in-Home.i [])) (held_as (staged_at room j)) _ c.write_home.result _ _
    (sym (held_in_room room c.args.filled true c.requires.there j here))
    (does_as g.D.Disk.write_grows g.D.Disk.sync_grows (λ (s : Staged). Call.Write
    (4096 * home_place (length room) (get_or s.numbers c.in-Home.i 0))
    (get_or s.images c.in-Home.i [])) c.segment_at-in-Home.result.now
    (staged_at room j) c.write_home.result _ _ c.segment_at-in-Home.ensures
    (does_as g.D.Disk.write_grows g.D.Disk.sync_grows (λ (k : ℕ). Call.Write
    (4096 * home_place k (get_or c.segment_at-in-Home.result.now.numbers c.in-Home.i 0))
    (get_or c.segment_at-in-Home.result.now.images c.in-Home.i [])) c.len.result (length room) c.write_home.result _ _
    (omega (arith, c.len.ensures)) c.write_home.ensures)))

pub close-requires-clause-gate : goal.close-requires-clause-gate
close-requires-clause-gate g c = c.requires.gate c.in-Close.j c.in-Close.is

pub returns-in-Close-clause-does : goal.returns-in-Close-clause-does
returns-in-Close-clause-does g c = rw c.in-Close.is c.close.ensures
