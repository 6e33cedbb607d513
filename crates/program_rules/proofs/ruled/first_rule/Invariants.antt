use Rattle.std.proofs.Common.{◌≡◌, drop}
use Rattle.program_rules.specs.Ruled.{first_rule}
use Rattle.program_rules.proofs.ruled.first_rule.Given as goal

-- no rule so far matches
abbrev pub invariant-rules : goal.invariant-rules
invariant-rules l = first_rule l.rules l.name ≡ first_rule (drop l.place l.rules) l.name
