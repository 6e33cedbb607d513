use Rattle.std.proofs.Common.{◌≡◌, ◌++◌, length}
use Rattle.spool_records.proofs.Cuts.{named}
use Rattle.spool_records.proofs.records_of_articles.cut_names.Given as goal

abbrev pub invariant-loop : goal.invariant-loop
invariant-loop l = record {
  cut : l.octets ≡ named l.names.items ++ l.rest;
  count : length l.names.items ≡ l.counter;
}
