use Rattle.std.proofs.Common.{rules, ◌≡◌, ◌<◌, List, None, ℕ, length, refl, sym, ◌∙◌, ap, subst, arith}
use Rattle.text_rnews.specs.Batch.{Unread, fed}
use Rattle.volume_importing.specs.Imported.{Imports}
use Rattle.volume_importing.proofs.Importing.{imports_nothing, long_as_before, never_ends, none_of, read_more, read_nothing, refused}
use Rattle.volume_importing.proofs.Importing.{some_of, stopped}
use Rattle.volume_store.proofs.GoingOn.{goes_then, stays}
use Rattle.volume_importing.proofs.batch_filing.file_all.Goals as goal

pub pieces-init : goal.pieces-init
pieces-init g c = (
  omega (arith, c.in_ok-piece.ensures.len, c.in_ok-piece.piece.ok.0),
  read_nothing c.args.store.now.spool (g.I.Read.remaining c.args.input.now) c.args.batch.now.reader.unread c.args.batch.now.counts,
  stays g.D.Disk.device c.args.store.now c.args.store.now refl refl refl,
)

pub returns-in_err-piece-clause-read : goal.returns-in_err-piece-clause-read
returns-in_err-piece-clause-read g c = (
  c.args.batch.now.reader.unread,
  read_nothing c.args.store.now.spool (g.I.Read.remaining c.args.input.now) c.args.batch.now.reader.unread c.args.batch.now.counts,
  λ is. absurd (refused c.from_residual.result c.from_residual.ensures.0 is),
)

pub returns-in_err-piece-clause-goes_on : goal.returns-in_err-piece-clause-goes_on
returns-in_err-piece-clause-goes_on g c = stays g.D.Disk.device c.args.store.now c.args.store.now refl refl refl

pub returns-in-Ok-eq0-clause-read : goal.returns-in-Ok-eq0-clause-read
returns-in-Ok-eq0-clause-read g c =
    let read = c.in-Ok-eq0.ensures.read in
    let s = c.pieces.store.spool in
    let counts = c.pieces.batch.counts in
    let left = c.read_piece.new.reader.unread in
    let none : c.in-Ok-eq0.field-0 ≡ 0 = search rules in
    let room : 0 < length c.deref_mut.result.now =
    omega (arith, ap (λ (o : List ℕ). length o) c.deref_mut.ensures.value, c.pieces.invariant.0) in (
      left,
      read_more c.args.store.now.spool s s _ _ _ c.args.batch.now.reader.unread c.pieces.batch.reader.unread left read.0
          c.args.batch.now.counts counts counts c.pieces.invariant.1 read.1
          (subst (λ (o : Unread). Imports s s o left counts counts) read.2 (imports_nothing s s left counts refl)),
      λ is. (c.end.ensures (let same : c.end.result ≡ None = cc in same), read.3 none room),
    )

pub returns-in-Err-clause-read : goal.returns-in-Err-clause-read
returns-in-Err-clause-read g c =
    let failed = c.in-Err.ensures.failed in
    let s = c.pieces.store.spool in
    let counts = c.pieces.batch.counts in
    let left = fed c.pieces.batch.reader.unread failed.0 in
    stopped c.stream_stop.result c.args.store.now.spool s _ _ c.args.batch.now.reader.unread left c.args.batch.now.counts counts
    (never_ends c.stream_stop.result c.stream_stop.ensures)
    (read_more c.args.store.now.spool s s _ _ _ c.args.batch.now.reader.unread c.pieces.batch.reader.unread left failed.0
    c.args.batch.now.counts counts counts c.pieces.invariant.1 failed.1 (imports_nothing s s left counts refl))

pub returns-then-is_some-clause-read : goal.returns-then-is_some-clause-read
returns-then-is_some-clause-read g c =
    let read = c.in-Ok.ensures.read in
    let s = c.pieces.store.spool in
    let new = c.file_ready.new.store.spool in
    let counts = c.pieces.batch.counts in
    let after = c.file_ready.new.batch.counts in
    let filed = c.file_ready.ensures.tried in (
      filed.0,
      read_more c.args.store.now.spool s new _ _ _ c.args.batch.now.reader.unread c.pieces.batch.reader.unread filed.0 read.0
          c.args.batch.now.counts counts after c.pieces.invariant.1 read.1
          (subst (λ (o : Unread). Imports s new o filed.0 counts after) read.2 filed.1),
      λ same. absurd (let none : c.in_ok-stop.stop ≡ None = cc in
          some_of c.in_ok-stop.stop (sym c.is_some.ensures ∙ c.if-is_some.true) none),
    )

pub returns-then-is_some-clause-goes_on : goal.returns-then-is_some-clause-goes_on
returns-then-is_some-clause-goes_on g c =
    goes_then g.D.Disk.device c.args.store.now c.pieces.store c.file_ready.new.store c.pieces.invariant.2 c.file_ready.ensures.goes_on

pub returns-in_err-stop-clause-read : goal.returns-in_err-stop-clause-read
returns-in_err-stop-clause-read g c =
    let read = c.in-Ok.ensures.read in
    let s = c.pieces.store.spool in
    let new = c.file_ready.new.store.spool in
    let counts = c.pieces.batch.counts in
    let after = c.file_ready.new.batch.counts in
    let filed = c.file_ready.ensures.tried in (
      filed.0,
      read_more c.args.store.now.spool s new _ _ _ c.args.batch.now.reader.unread c.pieces.batch.reader.unread filed.0 read.0
          c.args.batch.now.counts counts after c.pieces.invariant.1 read.1
          (subst (λ (o : Unread). Imports s new o filed.0 counts after) read.2 filed.1),
      λ is. absurd (refused c.from_residual-in_err-stop.result c.from_residual-in_err-stop.ensures.0 is),
    )

pub returns-in_err-stop-clause-goes_on : goal.returns-in_err-stop-clause-goes_on
returns-in_err-stop-clause-goes_on g c =
    goes_then g.D.Disk.device c.args.store.now c.pieces.store c.file_ready.new.store c.pieces.invariant.2 c.file_ready.ensures.goes_on

pub returns-in-Err-progress-clause-goes_on : goal.returns-in-Err-progress-clause-goes_on
returns-in-Err-progress-clause-goes_on g c =
    goes_then g.D.Disk.device c.args.store.now c.pieces.store c.file_ready.new.store c.pieces.invariant.2 c.file_ready.ensures.goes_on

pub returns-in-Err-progress-clause-read : goal.returns-in-Err-progress-clause-read
returns-in-Err-progress-clause-read g c =
    let read = c.in-Ok.ensures.read in
    let s = c.pieces.store.spool in
    let new = c.file_ready.new.store.spool in
    let counts = c.pieces.batch.counts in
    let after = c.file_ready.new.batch.counts in
    let left = c.file_ready.new.batch.reader.unread in
    let going = none_of c.in_ok-stop.stop (sym c.is_some.ensures ∙ c.if-is_some.false) in
    stopped c.stream_stop-in-Err-progress.result c.args.store.now.spool new _ _ c.args.batch.now.reader.unread left
    c.args.batch.now.counts after (never_ends c.stream_stop-in-Err-progress.result c.stream_stop-in-Err-progress.ensures)
    (read_more c.args.store.now.spool s new _ _ _ c.args.batch.now.reader.unread c.pieces.batch.reader.unread left read.0
    c.args.batch.now.counts counts after c.pieces.invariant.1 read.1
    (subst (λ (o : Unread). Imports s new o left counts after) read.2 (c.in_ok-stop.ensures.going going)))

pub pieces-preserved : goal.pieces-preserved
pieces-preserved g c =
    let read = c.in-Ok.ensures.read in
    let s = c.pieces.store.spool in
    let new = c.file_ready.new.store.spool in
    let counts = c.pieces.batch.counts in
    let after = c.file_ready.new.batch.counts in
    let left = c.file_ready.new.batch.reader.unread in
    let going = none_of c.in_ok-stop.stop (sym c.is_some.ensures ∙ c.if-is_some.false) in
    let room : length c.read_piece.new.room ≡ 65536 =
    c.read_piece.ensures.room ∙ ap (λ (o : List ℕ). length o) c.deref_mut.ensures.value ∙ c.pieces.invariant.0 in
    let long : c.pieces.piece.len ≡ 65536 = omega (arith, c.pieces.piece.ok.0, c.pieces.invariant.0) in (
      long_as_before c.pieces.piece.len 65536 c.read_piece.new.room c.pieces.piece.items room c.pieces.invariant.0 long,
      read_more c.args.store.now.spool s new _ _ _ c.args.batch.now.reader.unread c.pieces.batch.reader.unread left read.0
          c.args.batch.now.counts counts after c.pieces.invariant.1 read.1
          (subst (λ (o : Unread). Imports s new o left counts after) read.2 (c.in_ok-stop.ensures.going going)),
      goes_then g.D.Disk.device c.args.store.now c.pieces.store c.file_ready.new.store c.pieces.invariant.2 c.file_ready.ensures.goes_on,
    )

pub returns-clause-read : goal.returns-clause-read
returns-clause-read g c =
    stopped c.stream_stop-2.result c.args.store.now.spool c.pieces.store.spool _ _ c.args.batch.now.reader.unread
    c.pieces.batch.reader.unread c.args.batch.now.counts c.pieces.batch.counts
    (never_ends c.stream_stop-2.result c.stream_stop-2.ensures) c.pieces.invariant.1
