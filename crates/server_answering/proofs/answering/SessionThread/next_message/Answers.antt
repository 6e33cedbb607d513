use Rattle.std.proofs.Common.{rules, ◌≡◌, ◌<◌, ◌∙◌, IfSome, IfNone, Option, Some, None, [], ℕ, ap, sym, subst}
use Rattle.std.specs.Prelude.{take}
use Rattle.std.specs.Io.KnownBytes.{Consumes}
use Rattle.model.specs.Stream.{ReadsAlike, next}
use Rattle.model.specs.declared.message.Message.{Message}
use Rattle.server_answering.specs.declared.caller_reading.Incoming.{Incoming}
use Rattle.server_answering.proofs.Pieces.{awaits_mode, ended, fed, found}
use Rattle.server_answering.proofs.answering.SessionThread.next_message.Goals as goal
use Rattle.server_answering.proofs.answering.SessionThread.next_message.Goals.{then-not-is_sent, else-not-is_sent}

pub returns-in-Ok-Some-clause-next : goal.returns-in-Ok-Some-clause-next
returns-in-Ok-Some-clause-next g c =
    let old = c.pieces.reader in
    let new = c.next-in-pieces.new.self in
    let is = subst (λ (found : Option Message). IfSome found (λ message. next c.args.mode old.rest ≡ Some (message, new.rest)))
    c.in-Ok-Some.field-0-is c.in-Ok-Some.ensures.message in
    let none = subst (λ (found : Option Message). IfSome found (λ message. new.awaits ≡ None)) c.in-Ok-Some.field-0-is
    c.in-Ok-Some.ensures.done in
    found c.args.mode c.args.reader.now.rest _ _ old c.pieces.invariant.2 c.pieces.invariant.0 new c.in-Ok-Some.message is none

pub returns-then-count-eq0-clause-closed : goal.returns-then-count-eq0-clause-closed
returns-then-count-eq0-clause-closed g c = λ room closed.
    let old = c.pieces.reader in
    let new = c.next-in-pieces.new.self in
    let none = subst (λ (found : Option Message). IfNone found (next c.args.mode old.rest ≡ None)) c.in-Ok-None.field-0-is
    c.in-Ok-None.ensures.none in
    let alike = subst (λ (found : Option Message). IfNone found (ReadsAlike c.args.mode old.rest new.rest)) c.in-Ok-None.field-0-is
    c.in-Ok-None.ensures.alike in
    let waits = subst (λ (found : Option Message). IfNone found (new.awaits ≡ Some c.args.mode)) c.in-Ok-None.field-0-is
    c.in-Ok-None.ensures.awaits in
    let zero : c.in_ok-count.count ≡ 0 = search rules in
    let same : c.if-not-is_sent.incoming.stream ≡ c.pieces.incoming.stream =
    elim c.if-not-is_sent.branch [
      | then-not-is_sent w ↦ ap (λ (i : Incoming g.row.S.Denot). i.stream) w.incoming-is ∙ w.await_message.ensures
      | else-not-is_sent w ↦ ap (λ (i : Incoming g.row.S.Denot). i.stream) w.incoming-is
    ] in
    let consumed = subst (λ (s : g.row.S.Denot). Consumes (g.S.Read.remaining s) (g.S.Read.remaining c.read.new.self.stream) []) same
    (subst (λ (n : ℕ). Consumes (g.S.Read.remaining c.if-not-is_sent.incoming.stream) (g.S.Read.remaining c.read.new.self.stream)
    (take n c.read.new.piece)) zero c.in_ok-count.ensures.octets) in
    ended c.args.mode c.args.reader.now.rest _ _ old c.pieces.invariant.2 c.pieces.invariant.0 new none alike waits _ consumed
    (c.in_ok-count.ensures.end zero (subst (λ (n : ℕ). 0 < n) (sym c.pieces.invariant.1) room))

pub pieces-preserved : goal.pieces-preserved
pieces-preserved g c =
    let old = c.pieces.reader in
    let new = c.next-in-pieces.new.self in
    let none = subst (λ (found : Option Message). IfNone found (next c.args.mode old.rest ≡ None)) c.in-Ok-None.field-0-is
    c.in-Ok-None.ensures.none in
    let alike = subst (λ (found : Option Message). IfNone found (ReadsAlike c.args.mode old.rest new.rest)) c.in-Ok-None.field-0-is
    c.in-Ok-None.ensures.alike in
    let waits = subst (λ (found : Option Message). IfNone found (new.awaits ≡ Some c.args.mode)) c.in-Ok-None.field-0-is
    c.in-Ok-None.ensures.awaits in
    let same : c.if-not-is_sent.incoming.stream ≡ c.pieces.incoming.stream =
    elim c.if-not-is_sent.branch [
      | then-not-is_sent w ↦ ap (λ (i : Incoming g.row.S.Denot). i.stream) w.incoming-is ∙ w.await_message.ensures
      | else-not-is_sent w ↦ ap (λ (i : Incoming g.row.S.Denot). i.stream) w.incoming-is
    ] in
    let consumed = subst (λ (s : g.row.S.Denot). Consumes (g.S.Read.remaining s) (g.S.Read.remaining c.read.new.self.stream)
    (take c.in_ok-count.count c.read.new.piece)) same c.in_ok-count.ensures.octets in (
      awaits_mode c.args.mode c.feed.new.self.awaits (c.in-Ok.ensures.awaits ∙ waits),
      c.read.ensures.same ∙ c.pieces.invariant.1,
      fed c.args.mode c.args.reader.now.rest _ _ old c.pieces.invariant.2 c.pieces.invariant.0 new none alike waits _ c.feed.new.self
          (take c.in_ok-count.count c.read.new.piece) consumed c.in-Ok.ensures.rest c.in-Ok.ensures.awaits,
    )
