use Rattle.std.proofs.Common.{◌≡◌, map, take}
use Rattle.std.specs.Prelude.{Some}
use Rattle.program_rules.specs.Rules.{rules_of, said}
use Rattle.program_rules.proofs.reading.read_rules.Given as goal

-- the rules of the lines so far
abbrev pub invariant-lines : goal.invariant-lines
invariant-lines l = rules_of (take l.place (map (λ line. line.now) l.lines)) ≡ Some (map said l.rules.items)
