-- What opening a store finds.
use Rattle.std.specs.Prelude.{◌≡◌, IsTrue}
use Rattle.disk.specs.Device.{Device}
use Rattle.model.specs.Layout.{Stands}
use Rattle.volume_store.specs.Saved.{IsSaved, StoreView}

-- a store that was opened on a device: the image of the device stood for its changes, and all are durable. The volume has
-- format 3 now
pub record IsOpened {D : Type 0} (device : D → Device) (first : D) (store : StoreView D) : Type 0 where
  pub saved : IsSaved device store
  pub format : store.journal.format ≡ 3
  pub stands : IsTrue (device first).tells → Stands store.spool.host (device first).content store.spool.changes
  pub failures : (device store.journal.disk).failures ≡ (device first).failures
