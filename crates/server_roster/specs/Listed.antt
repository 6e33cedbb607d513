-- What a session waits for.
use Rattle.std.specs.Prelude.{Bool, true, false, codes}
use Rattle.model.specs.Stream.{Octets}
use Rattle.model.specs.declared.message.Mode.{Mode}
use Rattle.model.specs.declared.message.Mode.TheVariants as mode
use Rattle.server_roster.specs.declared.listed.SessionState.{SessionState}
use Rattle.server_roster.specs.declared.listed.SessionState.TheVariants as state

-- that of a session that awaits a line or a block, and holds outputs or not
abbrev pub state_of : Mode → Bool → SessionState
state_of mode true = state.Held
state_of mode.Line false = state.Idle
state_of mode.Block false = state.Sending

abbrev pub state_text : SessionState → Octets
state_text state.Idle = codes "idle"
state_text state.Sending = codes "sending"
state_text state.Held = codes "held"
