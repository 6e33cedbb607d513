use Rattle.std.proofs.Common.{◌∷◌, [], ◌++◌, ◌∙◌, arith, rules, drop, sym, ap, append_assoc, decimal}
use Rattle.std.proofs.lemmas.Fmt.{length-decimal-le}
use Rattle.kernel_outbox.proofs.Numbered.{two_before}
use Rattle.kernel_outbox.proofs.number_lines.write_line.Goals as goal

pub write_digits-requires : goal.write_digits-requires
write_digits-requires c = search (rules, length-decimal-le 20)

pub returns-clause-short : goal.returns-clause-short
returns-clause-short c =
    omega (
      arith,
      c.write_digits.ensures.start,
      length-decimal-le 20 c.args.number (omega arith) (omega arith) (omega arith),
    )

pub returns-clause-written : goal.returns-clause-written
returns-clause-written c =
    let number = c.args.number in
    let later = drop c.args.end c.args.octets.now in
    c.write_digits.ensures.written
    ∙ ap (λ os. decimal number ++ os) (two_before c.args.octets.now c.args.end 13 10 (omega (arith, c.requires.room)) c.requires.within)
    ∙ sym (append_assoc (decimal number) (13 ∷ 10 ∷ []) later)
