use Rattle.std.proofs.Common.{rules}
use Rattle.std.specs.Prelude.{ℕ, nat_lt}
use Rattle.std.proofs.lemmas.List.Sorted.{IsPartitionPoint-from_clause}
use Rattle.spool_index.proofs.latest.moments_below.Goals as goal

pub returns-clause-partitioned : goal.returns-clause-partitioned
returns-clause-partitioned c = λ parts. IsPartitionPoint-from_clause (λ (m : ℕ). nat_lt m c.args.moment) c.args.latest.now
    c.partition_point.result c.partition_point.ensures.partitioned parts (λ a r f' called. search rules)
