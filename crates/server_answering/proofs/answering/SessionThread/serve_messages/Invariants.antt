use Rattle.std.proofs.Common.{◌≡◌}
use Rattle.std.specs.Prelude.{None}
use Rattle.server_answering.proofs.answering.SessionThread.serve_messages.Given as goal

abbrev pub invariant-messages : goal.invariant-messages
invariant-messages g l = l.reader.awaits ≡ None
