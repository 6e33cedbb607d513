-- The content of a device is as large as the device.
use Rattle.std.proofs.Common.{◌≡◌, ℕ, IsTrue, List, length}
use Rattle.disk.specs.Device.{Device}

pub sized : (D : Type 0) (device : D → Device)
    → ((d : D) (image : List ℕ) → IsTrue (device d).tells → (device d).may_leave image → length image ≡ (device d).size)
    → ((d : D) → IsTrue (device d).tells → (device d).may_leave (device d).content) → (d : D) → IsTrue (device d).tells
    → length (device d).content ≡ (device d).size
sized D device law now d t = law d (device d).content t (now d t)
