-- The marks of the trace are those that a kernel gives (`mark_for` of the kernel), and its moments are before the year 10000.
use Rattle.std.specs.Prelude.{ℕ, ◌++◌}
use Rattle.model.specs.News.{service}
use Rattle.model.specs.Spool.{Spool}
use Rattle.model.specs.Stream.{Octets}
use Rattle.model_rfc.specs.Marks.{EachIsMarked}
use Rattle.synchrony.specs.Server.{opened}
use Rattle.kernel_trace.specs.Traced.{Trace, TracedView, arrived_at, first_spool}

-- in the plain server's run of a trace, whatever octets arrive later
abbrev pub AreMarkedIn : Octets → Spool → (ℕ → Octets) → Trace → Type 0
AreMarkedIn host S inputs trace =
    (more : ℕ → Octets) → EachIsMarked host (opened (service host) S (λ number. inputs number ++ more number)) trace

abbrev pub AreMarked : TracedView → Type 0
AreMarked served = AreMarkedIn served.kernel.host (first_spool served) (arrived_at served) served.trace
