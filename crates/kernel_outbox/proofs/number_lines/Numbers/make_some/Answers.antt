use Rattle.std.proofs.Common.{◌-◌, ◌+◌, ◌++◌, List, ℕ, ap, sym, ◌∙◌, arith, length, append_assoc}
use Rattle.std.proofs.lemmas.List.{length-drop}
use Rattle.kernel_outbox.specs.Numbers.{number_lines, last_line}
use Rattle.kernel_outbox.proofs.Numbered.{at_end, lines_split, some_short}
use Rattle.kernel_outbox.proofs.number_lines.Numbers.make_some.Goals as goal

pub append-requires : goal.append-requires
append-requires c =
    let lines = c.write_lines-start in
    let some = number_lines c.args.self.next c.min-some.result in
    let are = at_end lines.new.octets some lines.result lines.array_long lines.ensures.written in
    let size = ap (λ (os : List ℕ). length os) are in
    let end = ap (λ (os : List ℕ). length os) lines.ensures.written in
    omega (
      arith,
      c.requires.room,
      size,
      end,
      lines.array_long,
      length-drop lines.result lines.new.octets,
      some_short c.args.self.next c.min-some.result c.args.self.left (omega arith),
    )

pub returns-clause-made : goal.returns-clause-made
returns-clause-made c =
    let lines = c.write_lines-start in
    let before = c.args.octets.now.items in
    let next = c.args.self.next in
    let left = c.args.self.left in
    let count = c.min-some.result in
    let some = number_lines next count in
    let later = number_lines (next + count) (left - count) in
    let are = at_end lines.new.octets some lines.result lines.array_long lines.ensures.written in
    ap (λ os. os ++ (later ++ last_line)) (c.append.ensures.items ∙ ap (λ os. before ++ os) are)
    ∙ append_assoc before some (later ++ last_line)
    ∙ ap (λ os. before ++ os)
    (sym (append_assoc some later last_line) ∙ ap (λ os. os ++ last_line) (sym (lines_split next count left (omega arith))))
