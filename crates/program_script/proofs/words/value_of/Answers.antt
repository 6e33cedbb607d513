use Rattle.std.proofs.Common.{◌+◌, sym, arith}
use Rattle.text_names.proofs.Digits.{digits_more}
use Rattle.program_script.proofs.Digits.{too_large, whole}
use Rattle.program_script.proofs.words.value_of.Goals as goal

pub returns-in_err-checked_mul : goal.returns-in_err-checked_mul
returns-in_err-checked_mul c =
    let more = digits_more c.args.digits.now c.requires c.loop-octet.octet-index c.loop-octet-test.true in
    rw c.from_residual.ensures (sym
    (too_large c.args.digits.now (c.loop-octet.octet-index + 1)
    (omega (arith, c.loop-octet.invariant.0, c.in_err-checked_mul.ensures))))

pub returns-in_err-value : goal.returns-in_err-value
returns-in_err-value c =
    let more = digits_more c.args.digits.now c.requires c.loop-octet.octet-index c.loop-octet-test.true in
    rw c.from_residual-in_err-value.ensures
    (sym (too_large c.args.digits.now (c.loop-octet.octet-index + 1)
    (omega (arith, c.loop-octet.invariant.0, c.from-digit.ensures, c.in_ok-checked_mul.ensures, c.in_err-value.ensures))))

pub loop-octet-preserved : goal.loop-octet-preserved
loop-octet-preserved c =
    let more = digits_more c.args.digits.now c.requires c.loop-octet.octet-index c.loop-octet-test.true in (
      omega (arith, c.loop-octet.invariant.0, c.from-digit.ensures, c.in_ok-checked_mul.ensures, c.in_ok-value.ensures),
      omega (arith, c.in_ok-value.ensures),
    )

pub returns : goal.returns
returns c = whole c.args.digits.now c.loop-octet.octet-index c.loop-octet.value c.loop-octet-test.false c.loop-octet.invariant.0
    c.loop-octet.invariant.1
