use Rattle.std.proofs.Common.{◌≡◌, ◌^◌, ◌<◌, take}
use Rattle.model.specs.Records.{last_digits}
use Rattle.spool_records.proofs.names.serial_of.Given as goal

abbrev pub invariant-loop-digit : goal.invariant-loop-digit
invariant-loop-digit l = record {
  front : take l.digit-index l.digits ≡ last_digits l.digit-index l.serial;
  below : l.serial < 10 ^ l.digit-index;
}
