-- What an expiry by age makes of a volume.
use Rattle.std.specs.Prelude.{Result, OnOk}
use Rattle.disk.specs.Device.{Device}
use Rattle.kernel_expiring.specs.declared.AgedArticles.{AgedArticles}
use Rattle.model.specs.declared.change.Change.{Change}
use Rattle.model.specs.declared.change.Change.TheVariants.{Expire}
use Rattle.volume_store.specs.Saved.{GoesOn, StoreView}
use Rattle.program_changes.specs.Made.{IsMade, LeavesEither}

-- the change that takes these articles out of their group
abbrev pub expiry_of : AgedArticles → Change
expiry_of aged = Expire (record { group = aged.name; number = aged.number })

-- exactly these articles are taken out, and that is durable; if not, a crash leaves the changes before that, or with it
pub record Expires {D T E : Type 0} (device : D → Device) (old new : StoreView D) (aged : AgedArticles) (result : Result T E) : Type 0 where
  pub made : OnOk result (IsMade device old new (expiry_of aged))
  pub crash : LeavesEither device old new (expiry_of aged)
  pub goes_on : GoesOn device old new
