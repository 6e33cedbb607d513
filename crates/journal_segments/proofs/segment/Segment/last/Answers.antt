use Rattle.std.proofs.Common.{rules}
use Rattle.journal_segments.proofs.segment.Segment.last.Goals as goal

pub returns : goal.returns
returns c = search rules
