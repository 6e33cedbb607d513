-- What an opening answers.
use Rattle.std.specs.Prelude.{◌≡◌, None, [], false, length}
use Rattle.journal.specs.declared.JournalError.TheVariants as journal
use Rattle.world.specs.World.{WorldView, kernel_of}

-- all changes are durable, and nothing has happened yet
pub record IsNew {D : Type 0} (world : WorldView D) : Type 0 where
  pub first : world.served.first ≡ length (kernel_of world).spool
  pub durable : (kernel_of world).durable ≡ length (kernel_of world).spool
  pub in_flight : (kernel_of world).in_flight ≡ None
  pub halted : (kernel_of world).halted ≡ false
  pub dirty : (kernel_of world).dirty ≡ []
  pub joined : (kernel_of world).joined ≡ 0
  pub seats : (kernel_of world).seats ≡ []
  pub sessions : world.served.sessions ≡ []
  pub trace : world.served.trace ≡ []
  pub ready : world.served.ready ≡ []
  pub untold : world.untold ≡ []
