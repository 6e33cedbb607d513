use Rattle.std.proofs.Common.{◌≡◌, IfSome, Option, Some, Ok, refl, sym, ◌∙◌, subst}
use Rattle.text_rnews.specs.Batch.{next}
use Rattle.text_rnews.specs.Held.{handed_out}
use Rattle.text_rnews.specs.declared.reader.Member.{Member}
use Rattle.volume_importing.proofs.Importing.{imports_noted, imports_nothing, imports_one, imports_then, none_of}
use Rattle.volume_store.proofs.GoingOn.{goes_then, stays}
use Rattle.volume_importing.proofs.batch_filing.file_ready.Goals as goal

pub texts-init : goal.texts-init
texts-init g c = (
  imports_nothing c.args.store.now.spool c.args.store.now.spool c.args.batch.now.reader.unread c.args.batch.now.counts refl,
  stays g.D.Disk.device c.args.store.now c.args.store.now refl refl refl,
)

pub returns-in_err-outcome-clause-tried : goal.returns-in_err-outcome-clause-tried
returns-in_err-outcome-clause-tried g c =
    let unread = c.texts.batch.reader.unread in (
      unread,
      imports_then c.args.store.now.spool c.texts.store.spool c.file_member.new.store.spool c.args.batch.now.reader.unread unread unread
          c.args.batch.now.counts c.texts.batch.counts c.texts.batch.counts c.texts.invariant.0
          (imports_nothing c.texts.store.spool c.file_member.new.store.spool unread c.texts.batch.counts c.in_err-outcome.ensures.err),
    )

pub returns-in_err-outcome-clause-goes_on : goal.returns-in_err-outcome-clause-goes_on
returns-in_err-outcome-clause-goes_on g c =
    goes_then g.D.Disk.device c.args.store.now c.texts.store c.file_member.new.store c.texts.invariant.1 c.file_member.ensures.goes_on

pub returns-in_err-stop-clause-tried : goal.returns-in_err-stop-clause-tried
returns-in_err-stop-clause-tried g c =
    let unread = c.texts.batch.reader.unread in
    let left = c.next.new.self.unread in
    let is =
    subst (λ (found : Option Member). IfSome found (λ m. next unread ≡ Ok (Some (handed_out m, left)))) c.in-Ok-Some.field-0-is
    c.in-Ok-Some.ensures.member in
    let filed = c.in_ok-outcome.ensures.ok in
    let noted = imports_noted c.texts.store.spool filed.0 c.file_member.new.store.spool c.note.new.store.spool unread left
    c.texts.batch.counts c.note.new.counts
    (record { member = handed_out c.in-Ok-Some.member; moment = c.moment-moment.result; outcome = c.in_ok-outcome.outcome })
    is filed.1 filed.2 c.note.ensures.spool c.note.ensures.noted in (
      noted.0,
      imports_then c.args.store.now.spool c.texts.store.spool c.note.new.store.spool c.args.batch.now.reader.unread unread noted.0
          c.args.batch.now.counts c.texts.batch.counts c.note.new.counts c.texts.invariant.0 noted.1,
    )

pub returns-in_err-stop-clause-goes_on : goal.returns-in_err-stop-clause-goes_on
returns-in_err-stop-clause-goes_on g c =
    goes_then g.D.Disk.device c.args.store.now c.file_member.new.store c.note.new.store
    (goes_then g.D.Disk.device c.args.store.now c.texts.store c.file_member.new.store c.texts.invariant.1 c.file_member.ensures.goes_on)
    c.note.ensures.goes_on

pub returns-then-is_some-clause-tried : goal.returns-then-is_some-clause-tried
returns-then-is_some-clause-tried g c =
    let unread = c.texts.batch.reader.unread in
    let left = c.next.new.self.unread in
    let is =
    subst (λ (found : Option Member). IfSome found (λ m. next unread ≡ Ok (Some (handed_out m, left)))) c.in-Ok-Some.field-0-is
    c.in-Ok-Some.ensures.member in
    let filed = c.in_ok-outcome.ensures.ok in
    let noted = imports_noted c.texts.store.spool filed.0 c.file_member.new.store.spool c.note.new.store.spool unread left
    c.texts.batch.counts c.note.new.counts
    (record { member = handed_out c.in-Ok-Some.member; moment = c.moment-moment.result; outcome = c.in_ok-outcome.outcome })
    is filed.1 filed.2 c.note.ensures.spool c.note.ensures.noted in (
      noted.0,
      imports_then c.args.store.now.spool c.texts.store.spool c.note.new.store.spool c.args.batch.now.reader.unread unread noted.0
          c.args.batch.now.counts c.texts.batch.counts c.note.new.counts c.texts.invariant.0 noted.1,
    )

pub returns-then-is_some-clause-goes_on : goal.returns-then-is_some-clause-goes_on
returns-then-is_some-clause-goes_on g c =
    goes_then g.D.Disk.device c.args.store.now c.file_member.new.store c.note.new.store
    (goes_then g.D.Disk.device c.args.store.now c.texts.store c.file_member.new.store c.texts.invariant.1 c.file_member.ensures.goes_on)
    c.note.ensures.goes_on

pub texts-preserved : goal.texts-preserved
texts-preserved g c =
    let unread = c.texts.batch.reader.unread in
    let left = c.next.new.self.unread in
    let is =
    subst (λ (found : Option Member). IfSome found (λ m. next unread ≡ Ok (Some (handed_out m, left)))) c.in-Ok-Some.field-0-is
    c.in-Ok-Some.ensures.member in
    let filed = c.in_ok-outcome.ensures.ok in
    let going = none_of c.in_ok-stop.stop (sym c.is_some.ensures ∙ c.if-is_some.false) in (
      imports_then c.args.store.now.spool c.texts.store.spool c.note.new.store.spool c.args.batch.now.reader.unread unread left
          c.args.batch.now.counts c.texts.batch.counts c.note.new.counts c.texts.invariant.0
          (imports_one c.texts.store.spool filed.0 c.file_member.new.store.spool c.note.new.store.spool unread left
          c.texts.batch.counts c.note.new.counts
          (record { member = handed_out c.in-Ok-Some.member; moment = c.moment-moment.result; outcome = c.in_ok-outcome.outcome })
          is filed.1 filed.2 c.note.ensures.spool (c.in_ok-stop.ensures.going going)),
      goes_then g.D.Disk.device c.args.store.now c.file_member.new.store c.note.new.store
          (goes_then g.D.Disk.device c.args.store.now c.texts.store c.file_member.new.store c.texts.invariant.1
          c.file_member.ensures.goes_on)
          c.note.ensures.goes_on,
    )
