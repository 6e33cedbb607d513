use Rattle.std.proofs.Common.{◌≡◌, drop, map}
use Rattle.program_lists.specs.Lists.{first_about}
use Rattle.program_lists.proofs.reading.first_about.Given as goal

-- no line so far describes the group
abbrev pub invariant-lines : goal.invariant-lines
invariant-lines l =
    first_about (map (λ line. line.now) l.lines) l.name ≡ first_about (drop l.place (map (λ line. line.now) l.lines)) l.name
