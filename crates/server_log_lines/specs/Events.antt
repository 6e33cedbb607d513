-- Which events a server notes once.
use Rattle.std.specs.Prelude.{Bool, true, false}
use Rattle.server_log_lines.specs.declared.log_events.LogEvent.{LogEvent}
use Rattle.server_log_lines.specs.declared.log_events.LogEvent.TheVariants as event

-- callers have no part in how often these come
abbrev pub comes_once : LogEvent → Bool
comes_once (event.Begin _) = false
comes_once (event.End _) = false
comes_once (event.Post _) = false
comes_once (event.NotPosted _) = false
comes_once (event.Refused _) = false
comes_once (event.Fault _) = true
comes_once event.Halted = true
comes_once event.Clock = true
comes_once (event.Full _ _) = true
comes_once (event.Lost _) = false
comes_once (event.Opening _) = false
comes_once (event.Metrics _) = false
