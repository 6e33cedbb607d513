use Rattle.std.proofs.Common.{refl, subst}
use Rattle.model.specs.Stream.{Octets}
use Rattle.text_rnews.specs.LineEnds.{with_crlf}
use Rattle.volume_store.specs.Filing.{Becomes}
use Rattle.volume_store.proofs.GoingOn.{goes_then}
use Rattle.volume_importing.proofs.batch_filing.file_member.Goals as goal

pub returns-in_ok-file-in-Text-clause-ok : goal.returns-in_ok-file-in-Text-clause-ok
returns-in_ok-file-in-Text-clause-ok g c =
    let becomes =
    subst (λ (o : Octets). Becomes c.make_room.new.self.spool c.file.new.self.spool (with_crlf o) c.args.moment
    c.in_ok-file-in-Text.field-0)
    c.deref.ensures.value c.in_ok-file-in-Text.ensures.ok in
    rw c.in-Text.is (c.make_room.new.self.spool, c.in_ok-make_room-in-Text.ensures.spool, becomes)

pub returns-in_ok-file-in-Text-clause-goes_on : goal.returns-in_ok-file-in-Text-clause-goes_on
returns-in_ok-file-in-Text-clause-goes_on g c =
    goes_then g.D.Disk.device c.args.store.now c.make_room.new.self c.file.new.self c.make_room.ensures.goes_on c.file.ensures.goes_on

pub returns-in-TooLong-clause-ok : goal.returns-in-TooLong-clause-ok
returns-in-TooLong-clause-ok g c = rw c.in-TooLong.is (c.args.store.now.spool, refl, (refl, refl))
