use Rattle.std.proofs.Common.{◌≡◌, take}
use Rattle.std.specs.Str.Parse.{digits_value}
use Rattle.text_names.proofs.checks.value_of.Given as goal

-- the number that the digits so far write
abbrev pub invariant-loop-octet : goal.invariant-loop-octet
invariant-loop-octet l = l.value ≡ digits_value 10 (take l.octet-index l.digits)
