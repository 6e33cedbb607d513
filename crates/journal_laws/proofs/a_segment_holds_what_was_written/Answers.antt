use Rattle.journal_laws.proofs.Writing.{batch_written}
use Rattle.journal_laws.proofs.a_segment_holds_what_was_written.Goals as goal

pub returns : goal.returns
returns c = batch_written
