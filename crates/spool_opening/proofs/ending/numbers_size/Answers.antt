use Rattle.std.proofs.Common.{arith}
use Rattle.spool_groups.specs.Shown.{shown}
use Rattle.spool_opening.proofs.Sizes.{few_filed}
use Rattle.spool_opening.proofs.Whole.{numbers_found}
use Rattle.spool_opening.proofs.ending.numbers_size.Goals as goal

pub overflow_mul-result : goal.overflow_mul-result
overflow_mul-result c =
    let few = few_filed c.args.index.now c.args.group.now (shown c.in-Some.found.now) c.requires
    (c.in-Some.ensures c.requires.changes c.requires.indexed) in
    omega (arith, few, c.high-high.ensures)

pub returns : goal.returns
returns c = λ S is. numbers_found S c.args.group.now (shown c.in-Some.found.now) c.high-high.result
    (c.in-Some.ensures S is) c.high-high.ensures
