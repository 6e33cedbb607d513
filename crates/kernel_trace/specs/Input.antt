-- What the program holds of a session's stream.
use Rattle.std.specs.Prelude.{◌≡◌, ℕ, Bool, true, false, List, Option, Some, None, IfSome}
use Rattle.text_framing.specs.Held.{StandsFor}
use Rattle.model.specs.Stream.{next}
use Rattle.model.specs.declared.message.Message.{Message}
use Rattle.model.specs.declared.message.Mode.{Mode}
use Rattle.kernel_trace.specs.declared.input.Input.{Input}

-- the next message was found, or the reader may be asked for one in this mode
abbrev pub MayAsk : Input → Mode → Type 0
MayAsk input mode = MayAskFor input.message where
  MayAskFor : Option Message → Type 0
  MayAskFor None = IfSome input.reader.awaits (λ awaited. awaited ≡ mode)
  MayAskFor (Some message) = Unit {0}

-- the stream's next message was found, and the reader stands for what follows it
abbrev pub HoldsMessage : Input → Mode → List ℕ → Message → Type 0
HoldsMessage input mode stream message = (rest : List ℕ) × (next mode stream ≡ Some (message, rest)) × StandsFor input.reader rest
    × (input.reader.awaits ≡ None)

-- the input stands for the stream, whose next message is read in this mode
abbrev pub Waits : Input → Mode → List ℕ → Type 0
Waits input mode stream = WaitsWith input.message where
  WaitsWith : Option Message → Type 0
  WaitsWith None = StandsFor input.reader stream × IfSome input.reader.awaits (λ awaited. awaited ≡ mode)
  WaitsWith (Some message) = HoldsMessage input mode stream message

-- the next message is held, or the stream has none yet
abbrev pub Found : Bool → Input → Mode → List ℕ → Type 0
Found true input mode stream = (message : Message) × (input.message ≡ Some message) × HoldsMessage input mode stream message
Found false input mode stream = (next mode stream ≡ None) × Waits input mode stream
