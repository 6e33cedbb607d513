-- Writes to a device.
use Rattle.std.proofs.Common.{◌≡◌, ℕ, ◌*◌, Bool, List, subst, Result}
use Rattle.disk.specs.Calls.{Writes}
use Rattle.disk.specs.Device.{Device}
use Rattle.disk.specs.declared.DiskError.{DiskError}

-- one write, by what its place and its octets are
pub writes_at : {grows : Bool} (at place : ℕ) (written octets : List ℕ) (result : Result (Unit {0}) DiskError) (old new : Device)
    → at ≡ place → written ≡ octets → Writes grows (4096 * at) written result old new
    → Writes grows (4096 * place) octets result old new
writes_at {grows} at place written octets result old new at_is written_is wrote =
    subst (λ (p : ℕ). Writes grows (4096 * p) octets result old new) at_is
    (subst (λ (o : List ℕ). Writes grows (4096 * at) o result old new) written_is wrote)
