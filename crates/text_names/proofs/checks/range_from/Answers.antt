use Rattle.std.proofs.Common.{rules}
use Rattle.text_names.proofs.checks.range_from.Goals as goal

pub returns-then-is_empty : goal.returns-then-is_empty
returns-then-is_empty c = search rules
