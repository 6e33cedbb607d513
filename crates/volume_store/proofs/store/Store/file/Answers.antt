use Rattle.std.proofs.Common.{◌≤◌, IfOk, length, refl, sym, subst, ◌∙◌}
use Rattle.model.specs.Stream.{Octets}
use Rattle.text_rnews.specs.LineEnds.{with_crlf}
use Rattle.volume_store.specs.Filing.{Becomes}
use Rattle.volume_store.specs.Saved.{GoesOn, StoreView}
use Rattle.volume_store.proofs.GoingOn as going
use Rattle.kernel.specs.Kernel.{most_dirty}
use Rattle.volume_store.proofs.Tied.{files}
use Rattle.volume_store.proofs.store.Store.file.Goals as goal

pub invariant_of-self : goal.invariant_of-self
invariant_of-self g c =
    let room = subst (λ (s : StoreView g.row.D.Denot). length s.spool.dirty ≤ most_dirty (length s.spool.blocks)) (sym c.self.view_is)
    c.requires in
    files g.D.Disk.device c.self.inside.journal c.self.inside.spool c.file_text.new.spool c.self.inside.durable c.self.invariant
    c.kept.ensures.room.count_few room
    _ _ c.file_text.result c.file_text.ensures.ok c.file_text.ensures.err

pub returns-clause-goes_on : goal.returns-clause-goes_on
returns-clause-goes_on g c =
    let before : StoreView g.row.D.Denot =
    record { journal = c.self.inside.journal; spool = c.self.inside.spool; durable = c.self.inside.durable } in
    let after : StoreView g.row.D.Denot =
    record { journal = c.self.inside.journal; spool = c.file_text.new.spool; durable = c.self.inside.durable } in
    subst (λ (was : StoreView g.row.D.Denot). GoesOn g.D.Disk.device was after) c.self.view_is
    (going.files g.D.Disk.device before after _ _ c.file_text.result refl refl c.file_text.ensures.ok c.file_text.ensures.err)

pub returns-clause-ok : goal.returns-clause-ok
returns-clause-ok g c =
    subst (λ (was : StoreView g.row.D.Denot).
    IfOk c.file_text.result (Becomes was.spool c.file_text.new.spool (with_crlf c.args.text.now) c.args.moment)) c.self.view_is
    (subst (λ (text : Octets). IfOk c.file_text.result (Becomes c.self.inside.spool c.file_text.new.spool text c.args.moment))
    (c.deref.ensures.value ∙ c.in_ok-text.ensures) c.file_text.ensures.ok)
