-- What a new volume holds.
use Rattle.std.specs.Prelude.{◌≡◌, ◌≢◌, ℕ, List, IfErr, OnOk, Result, replicate}
use Rattle.disk.specs.Device.{Device}
use Rattle.journal_layout.specs.declared.FormatError.{FormatError}
use Rattle.journal_layout.specs.declared.FormatError.TheVariants.{Fault, Memory}

-- a logical block of zeros
unfoldable pub zero_block : List ℕ
zero_block = replicate 4096 0

-- this many logical blocks of zeros
abbrev pub zeroed : ℕ → List (List ℕ)
zeroed n = replicate n zero_block

-- a fault changes the device's count of failures, and no other result does
pub record CountsFaults {T : Type 0} (result : Result T FormatError) (old new : Device) : Type 0 where
  pub ok : OnOk result (new.failures ≡ old.failures)
  pub fault : IfErr result (λ error. error ≡ Fault → new.failures ≢ old.failures)
  pub memory : IfErr result (λ error. error ≡ Memory → new.failures ≡ old.failures)
