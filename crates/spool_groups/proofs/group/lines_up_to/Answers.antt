use Rattle.std.proofs.Common.{rules}
use Rattle.std.specs.Prelude.{nat_le}
use Rattle.std.proofs.lemmas.List.Sorted.{IsPartitionPoint-from_clause}
use Rattle.spool_groups.specs.declared.group.Line.{Line}
use Rattle.spool_groups.proofs.group.lines_up_to.Goals as goal

pub returns-clause-partitioned : goal.returns-clause-partitioned
returns-clause-partitioned c = λ parts. IsPartitionPoint-from_clause (λ (l : Line). nat_le l.serial c.args.serial) c.args.lines.now
    c.partition_point.result c.partition_point.ensures.partitioned parts (λ a r f' called. search rules)
