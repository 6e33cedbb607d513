-- Octets that go behind others.
use Rattle.std.proofs.Common.{◌≡◌, ◌++◌, if◌then◌else◌}
use Rattle.std.specs.Prelude.{Result, Ok, Err, OnOk}
use Rattle.std.specs.Result.{is_ok}
use Rattle.model.specs.Stream.{Octets}

pub appended : {T E : Type 0} (r : Result T E) (old more new : Octets) → new ≡ (if is_ok r then old ++ more else old)
    → OnOk r (new ≡ old ++ more)
appended (Ok x) old more new is = is
appended (Err e) old more new is = tt
