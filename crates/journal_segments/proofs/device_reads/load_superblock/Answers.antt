use Rattle.std.proofs.Common.{rules}
use Rattle.journal_segments.proofs.device_reads.load_superblock.Goals as goal

pub read_block-requires-clause-low : goal.read_block-requires-clause-low
read_block-requires-clause-low c = search rules

pub returns-in-Some-clause-value : goal.returns-in-Some-clause-value
returns-in-Some-clause-value c = search rules

pub returns-in-None-clause-no_volume : goal.returns-in-None-clause-no_volume
returns-in-None-clause-no_volume c = search rules
