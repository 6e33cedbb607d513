use Rattle.kernel.proofs.DeviceLaws.{journal_refused}
use Rattle.kernel.proofs.device_opening.open_journal.Goals as goal

pub returns-in-Err-clause-refusal : goal.returns-in-Err-clause-refusal
returns-in-Err-clause-refusal g c =
    journal_refused g.D.Disk.device c.args.disk c.in-Err.refused.disk c.in-Err.refused.error c.journal_error.result c.journal_error.ensures
    c.in-Err.ensures.err c.in-Err.ensures.moment c.in-Err.ensures.judged
