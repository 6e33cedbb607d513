use Rattle.std.proofs.Common.{rules}
use Rattle.journal_layout.proofs.superblock.may_be_many.Goals as goal

pub returns-else-segments-eq-ONE_SEGMENT-clause-count : goal.returns-else-segments-eq-ONE_SEGMENT-clause-count
returns-else-segments-eq-ONE_SEGMENT-clause-count c = search rules
