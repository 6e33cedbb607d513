-- What the fields of the code mean, and what they keep.
use Rattle.std.specs.Prelude.{◌≡◌, Bool, true, false, List, [], ◌∷◌, ◌++◌, Option, Some, None, option_map}
use Rattle.kernel_shared.specs.declared.ticket.Ticket.{Ticket}
use Rattle.world.specs.Tied.{IsTied}
use Rattle.world.specs.World.{HasFailed, IsDurable, News, WorldView, kernel_of}

abbrev pub durable_news : Option Ticket → Bool → List News
durable_news None committed = []
durable_news (Some ticket) false = []
durable_news (Some ticket) true = IsDurable ticket.last ∷ []

abbrev pub failed_news : Bool → List News
failed_news false = []
failed_news true = HasFailed ∷ []

-- what the kernel has yet to learn of the batch in flight, and of a fault
abbrev pub news_in : Option Ticket → Bool → Bool → List News
news_in ticket committed failed = durable_news ticket committed ++ failed_news failed

-- the journal is tied to the kernel, and the ticket is that of the batch in flight
pub record IsSound {D : Type 0} (tells : Bool) (world : WorldView D) (ticket : Option Ticket) : Type 0 where
  pub tied : IsTied tells world
  pub flies : option_map (λ (t : Ticket). t.last) ticket ≡ (kernel_of world).in_flight
