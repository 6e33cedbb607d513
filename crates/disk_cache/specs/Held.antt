-- What a cache keeps between two calls.
use Rattle.std.specs.Prelude.{◌≡◌, ◌≤◌, ℕ, Option, None}
use Rattle.disk.specs.Device.{Device}

-- nothing is collected past the end of the device
pub record IsHeld (device : Device) (len : ℕ) (taken : ℕ → Option ℕ) : Type 0 where
  pub size : device.size ≡ len
  pub past : (k : ℕ) → len ≤ k → taken k ≡ None
