use Rattle.std.proofs.Common.{◌≡◌, length, ◌-◌, ◌/◌, ◌^◌, drop}
use Rattle.model.specs.Records.{last_digits}
use Rattle.spool_records.proofs.names.serial_digits.Given as goal

abbrev pub invariant-loop-i : goal.invariant-loop-i
invariant-loop-i l = record {
  size : length l.digits ≡ 10;
  written : drop (10 - l.i) l.digits ≡ last_digits l.i l.serial;
  left : l.rest ≡ l.serial / 10 ^ l.i;
}
