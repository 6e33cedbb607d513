use Rattle.std.proofs.Common.{true, sym, take}
use Rattle.std.specs.Cmp.Lexicographic.{same_text}
use Rattle.server_operator_lines.proofs.AgeLines.{asks, parted}
use Rattle.server_operator_lines.specs.Ages.{begins}
use Rattle.server_operator_lines.proofs.ages.ages_in.Goals as goal

pub returns-in-Some-strip_prefix-clause-some : goal.returns-in-Some-strip_prefix-clause-some
returns-in-Some-strip_prefix-clause-some c =
    let line = c.args.line.now in
    let words = c.in-Some-strip_prefix.words.now in
    asks line words true c.read_ages-in-Some-strip_prefix.result
    (parted 11 line (begins true) words (same_text (take 11 line) (begins true) (sym c.in-Some-strip_prefix.ensures.cases.0))
    c.in-Some-strip_prefix.ensures.cases.1) c.read_ages-in-Some-strip_prefix.ensures.some
