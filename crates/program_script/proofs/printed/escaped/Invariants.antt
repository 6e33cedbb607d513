use Rattle.std.proofs.Common.{◌≡◌, take}
use Rattle.std.specs.List.{flat_map}
use Rattle.program_script.specs.Printed.{escape}
use Rattle.program_script.proofs.printed.escaped.Given as goal

-- the octets so far are printed
abbrev pub invariant-loop-octet : goal.invariant-loop-octet
invariant-loop-octet l = l.text.items ≡ flat_map escape (take l.octet-index l.octets)
