use Rattle.std.proofs.Common.{rules}
use Rattle.std.specs.Prelude.{nat_lt}
use Rattle.std.proofs.lemmas.List.Sorted.{IsPartitionPoint-from_clause}
use Rattle.spool_groups.specs.declared.group.Expired.{Expired}
use Rattle.spool_groups.proofs.group.expiries_below.Goals as goal

pub returns-clause-partitioned : goal.returns-clause-partitioned
returns-clause-partitioned c = λ parts. IsPartitionPoint-from_clause (λ (l : Expired). nat_lt l.number c.args.number) c.args.expired.now
    c.partition_point.result c.partition_point.ensures.partitioned parts (λ a r f' called. search rules)
