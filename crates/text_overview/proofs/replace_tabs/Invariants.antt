use Rattle.std.proofs.Common.{◌≡◌, ◌==◌, ◌++◌, if◌then◌else◌, map, take, drop}
use Rattle.text_overview.proofs.replace_tabs.Given as goal

-- no TAB is left so far
abbrev pub invariant-loop-octet : goal.invariant-loop-octet
invariant-loop-octet l = l.octets ≡ map (λ octet. if octet == 9 then 32 else octet) (take l.octet-index l.fn.octets)
    ++ drop l.octet-index l.fn.octets
