-- Systems over one disk, each opened on what a crash of the one before it left.
use Rattle.std.specs.Prelude.{◌≡◌, Bool, List, [], ◌∷◌, ℕ}
use Rattle.disk.specs.Device.{Device}
use Rattle.model_lives.specs.Lives.{AreLives, BeginsEach, Life, one_server}
use mathlib.Core.List.{IsPrefix}
use Rattle.model.specs.News.{Stands, service}
use Rattle.model.specs.Stream.{Octets}
use Rattle.model.specs.declared.change.Change.{Change}
use Rattle.model.specs.declared.message.Mark.{Mark}
use Rattle.kernel_trace.specs.Traced.{arrived_at, first_spool, released_at}
use Rattle.world.specs.Events.{Went}
use Rattle.world.specs.Images.{Fits}
use Rattle.world.specs.Opening.{IsNew}
use Rattle.world.specs.Tied.{IsWorld}
use Rattle.world.specs.World.{WorldView, kernel_of}
use Rattle.world.specs.declared.events.Event.{Event}

-- the life of a system up to a crash that left this many changes
abbrev pub life_of : {D : Type 0} → WorldView D → ℕ → Life Change Mark
life_of world left =
    record { inputs = arrived_at world.served; trace = world.served.trace; released = released_at world.served; left = left }

-- A system that was opened had these lives, each ended by a crash. After each crash a system was opened on an image that
-- the crash may leave. This is what stands after any events since the last opening.
pub data Lived {D : Type 0} (device : D → Device) (write_grows sync_grows : Bool) : WorldView D → List (Life Change Mark) → WorldView D
    → Type 0 where
  lives_on : (opened now : WorldView D) (events : List Event) → IsNew opened → Went device write_grows sync_grows opened events now
      → Lived device write_grows sync_grows opened [] now
  crashes : (opened old next now : WorldView D) (events : List Event) (image : Octets) (lives : List (Life Change Mark)) → IsNew opened
      → Went device write_grows sync_grows opened events old → IsWorld device old → (fits : Fits old image)
      → Stands (kernel_of next).host image (kernel_of next).spool → IsNew next → Lived device write_grows sync_grows next lives now
      → Lived device write_grows sync_grows opened (life_of old fits.0 ∷ lives) now

-- what all these lives come to, from the first opening to now
pub record AreOneLife {D : Type 0} (opened : WorldView D) (lives : List (Life Change Mark)) (now : WorldView D) : Type 0 where
  -- each began with what the one before it left, and is externally synchronous
  pub are : AreLives (service (kernel_of opened).host) (kernel_of opened).spool lives
  pub host : (kernel_of now).host ≡ (kernel_of opened).host
  -- one server that commits before it replies lives through all of them: it has the spool of the last opening
  pub one : one_server (service (kernel_of opened).host) (kernel_of opened).spool lives ≡ first_spool now.served
  -- in each life, what was released to a session begins the replies of that server
  pub begins : BeginsEach (service (kernel_of opened).host) (kernel_of opened).spool lives
  -- the changes of the first opening are still the first ones
  pub kept : IsPrefix (kernel_of opened).spool (kernel_of now).spool
