use Rattle.std.proofs.Common.{◌≡◌, length}
use Rattle.std.specs.Prelude.{IfSome}
use Rattle.server_answering.proofs.Pieces.{IsRead}
use Rattle.server_answering.proofs.answering.SessionThread.next_message.Given as goal

abbrev pub invariant-pieces : goal.invariant-pieces
invariant-pieces g l =
    IfSome l.reader.awaits (λ awaited. awaited ≡ l.mode)
    × (length l.piece ≡ length l.initial.piece)
    × IsRead l.initial.reader.rest (g.S.Read.remaining l.initial.incoming.stream) (g.S.Read.remaining l.incoming.stream) l.reader
