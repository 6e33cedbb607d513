use Rattle.std.proofs.Common.{◌+◌, arith}
use Rattle.text_names.proofs.Digits.{digits_more, digits_small}
use Rattle.text_names.proofs.checks.value_of.Goals as goal

pub overflow_mul-value : goal.overflow_mul-value
overflow_mul-value c =
    omega (
      arith,
      c.loop-octet.invariant,
      digits_more c.args.digits.now c.requires.digits c.loop-octet.octet-index c.loop-octet-test.true,
      digits_small c.args.digits.now c.requires.digits c.requires.small (c.loop-octet.octet-index + 1),
    )

pub overflow_add-value : goal.overflow_add-value
overflow_add-value c =
    omega (
      arith,
      c.loop-octet.invariant,
      c.from.ensures,
      digits_more c.args.digits.now c.requires.digits c.loop-octet.octet-index c.loop-octet-test.true,
      digits_small c.args.digits.now c.requires.digits c.requires.small (c.loop-octet.octet-index + 1),
    )

pub loop-octet-preserved : goal.loop-octet-preserved
loop-octet-preserved c =
    omega (
      arith,
      c.loop-octet.invariant,
      c.from.ensures,
      digits_more c.args.digits.now c.requires.digits c.loop-octet.octet-index c.loop-octet-test.true,
    )
