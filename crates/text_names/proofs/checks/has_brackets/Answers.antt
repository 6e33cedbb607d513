use Rattle.std.proofs.Common.{rules}
use Rattle.text_names.proofs.checks.has_brackets.Goals as goal

pub returns : goal.returns
returns c = search rules
