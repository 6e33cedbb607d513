use Rattle.std.proofs.Common.{rules, arith}
use Rattle.std.proofs.lemmas.Grind.{common_steps}
use Rattle.fs_layout.proofs.bits.set_front.Goals as goal

pub loop-bit-init : goal.loop-bit-init
loop-bit-init c = grind (arith, common_steps)

pub returns : goal.returns
returns c = search rules
