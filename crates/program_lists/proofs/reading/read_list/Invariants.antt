use Rattle.std.proofs.Common.{◌≡◌, take, map}
use Rattle.program_lists.specs.Lists.{listed_from, said}
use Rattle.program_lists.proofs.reading.read_list.Given as goal

-- what the lines so far ask for
abbrev pub invariant-lines : goal.invariant-lines
invariant-lines l =
    let lines = map (λ line. line.now) l.lines in map said l.listed.items ≡ listed_from lines l.moment 1 (take l.place lines)
