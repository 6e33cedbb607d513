use Rattle.std.proofs.Common.{◌+◌, sym, ◌∙◌}
use Rattle.journal_segments.specs.Found.{Rejects}
use Rattle.journal_segments.specs.declared.SegmentError.{SegmentError}
use Rattle.std.proofs.lemmas.Result.{IfErr-weaker}
use Rattle.journal_segments.proofs.Gates.{found_then, passed, rejects_then}
use Rattle.journal_segments.proofs.open_segments.look_at.Goals as goal

pub take_open-requires-clause-so_far : goal.take_open-requires-clause-so_far
take_open-requires-clause-so_far g c =
    found_then (g.D.Disk.device c.args.disk.now) (g.D.Disk.device c.is_gate_open.new.disk) c.is_gate_open.ensures.quiet
    c.in-Ok.ensures.still c.args.volume.blocks (c.args.place + 1) c.args.room.now.items c.args.found c.requires.so_far

pub returns-then-opened-clause-err : goal.returns-then-opened-clause-err
returns-then-opened-clause-err g c =
    let old = g.D.Disk.device c.args.disk.now in
    let mid = g.D.Disk.device c.is_gate_open.new.disk in
    let new = g.D.Disk.device c.take_open.new.disk in
    IfErr-weaker c.take_open.result (λ (e : SegmentError). Rejects e mid new) (λ (e : SegmentError). Rejects e old new)
    (λ e h. rejects_then e old mid new c.is_gate_open.ensures.quiet c.in-Ok.ensures.still h) c.take_open.ensures.err

pub returns-else-opened-clause-found : goal.returns-else-opened-clause-found
returns-else-opened-clause-found g c =
    let old = g.D.Disk.device c.args.disk.now in
    let mid = g.D.Disk.device c.is_gate_open.new.disk in
    found_then old mid c.is_gate_open.ensures.quiet c.in-Ok.ensures.still c.args.volume.blocks c.args.place c.args.room.now.items
    c.args.found
    (passed old c.args.volume.blocks c.args.place c.args.room.now.items c.args.found c.requires.so_far (λ t. sym (c.in-Ok.ensures.value t)
    ∙ c.if-opened.false))
