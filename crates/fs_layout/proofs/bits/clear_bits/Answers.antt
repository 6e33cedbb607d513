use Rattle.std.proofs.Common.{sym, arith}
use Rattle.std.proofs.lemmas.Nat.{ones-le}
use Rattle.fs_layout.proofs.OctetBits.{clear_bits_of}
use Rattle.fs_layout.proofs.bits.clear_bits.Goals as goal

pub overflow_sub-result : goal.overflow_sub-result
overflow_sub-result c =
    omega (arith, ones-le 8 c.args.octet (omega arith))

pub returns-clause-clear : goal.returns-clause-clear
returns-clause-clear c =
    sym (clear_bits_of c.args.octet (omega arith))
