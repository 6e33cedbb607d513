-- How a client that knows RFC 3977 alone reads what was released to a session. What it says of a client stands in model_rfc.
use Rattle.std.specs.Prelude.{ℕ, List, ◌∷◌, map}
use Rattle.model.specs.News.{service}
use Rattle.model.specs.Stream.{Octets}
use Rattle.model_rfc.specs.Commands.{Asked, greeted, plainly}
use Rattle.model_rfc.specs.Reading.{IsReadSoFar, KeepsStep}
use Rattle.model_rfc.specs.Serving.{asked, turns_of}
use Rattle.synchrony.specs.Server.{opened}
use Rattle.kernel_trace.specs.Traced.{TracedView, arrived_at, first_spool, plain, released_at}

-- what a session asked, in order: the greeting, and then each message of it in the trace
abbrev pub asked_by : TracedView → ℕ → List Asked
asked_by served number = plainly greeted ∷ map asked
    (turns_of served.kernel.host (opened (service served.kernel.host) (first_spool served) (arrived_at served)) served.trace number)

-- what the plain server replies to it, in order
abbrev pub replies_of : TracedView → ℕ → List Octets
replies_of served number = ((plain served).connections number).replies

-- The client would read the plain server's replies as one response for each thing asked. What was released it reads as the first of
-- these responses, whole, and at most a part of one more.
pub record IsRead (served : TracedView) (number : ℕ) : Type 0 where
  pub keeps : KeepsStep (asked_by served number) (replies_of served number)
  pub released : IsReadSoFar (asked_by served number) (replies_of served number) keeps.responses (released_at served number)

-- so it is of each session
abbrev pub AreRead : TracedView → Type 0
AreRead served = (number : ℕ) → IsRead served number
