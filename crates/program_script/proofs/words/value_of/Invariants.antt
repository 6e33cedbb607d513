use Rattle.std.proofs.Common.{◌≡◌, ◌<◌, ◌^◌, take}
use Rattle.std.specs.Str.Parse.{digits_value}
use Rattle.program_script.proofs.words.value_of.Given as goal

-- the number that the digits so far write
abbrev pub invariant-loop-octet : goal.invariant-loop-octet
invariant-loop-octet l = (l.value ≡ digits_value 10 (take l.octet-index l.digits)) × (l.value < 2 ^ 64)
