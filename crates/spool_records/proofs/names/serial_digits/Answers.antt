use Rattle.spool_records.proofs.Digits.{next_left, next_written}
use Rattle.std.proofs.Common.{◌-◌, ◌∙◌, arith}
use Rattle.std.proofs.lemmas.List.{length-set}
use Rattle.spool_records.proofs.names.serial_digits.Goals as goal

pub loop-i-preserved : goal.loop-i-preserved
loop-i-preserved c = record {
  size = length-set c.loop-i.digits (9 - c.loop-i.i) _ ∙ c.loop-i.invariant.size;
  written = next_written c.loop-i.digits c.loop-i.i c.args.serial c.loop-i.rest c.loop-i.invariant.size
      (omega arith) c.loop-i.invariant.left c.loop-i.invariant.written;
  left = next_left c.loop-i.i c.args.serial c.loop-i.rest c.loop-i.invariant.left;
}
