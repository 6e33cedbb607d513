use Rattle.std.proofs.Common.{◌∙◌}
use Rattle.journal_gates.proofs.Looking.{count_of}
use Rattle.journal_gates.proofs.count_gates.Goals as goal

pub returns-clause-count : goal.returns-clause-count
returns-clause-count g c t =
    count_of (g.D.Disk.device c.args.disk.now) c.as_slice.result.now c.count_told.result (c.as_slice.ensures.value
    ∙ c.in_ok-read_first.ensures.value t)
    c.len-size.result c.len-size.ensures c.count_told.ensures.count
