use Rattle.std.proofs.Common.{rules}
use Rattle.text_names.proofs.values.Wildmat.as_slice.Goals as goal

pub returns-clause-value : goal.returns-clause-value
returns-clause-value c = search rules
