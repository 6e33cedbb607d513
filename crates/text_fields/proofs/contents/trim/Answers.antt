use Rattle.std.proofs.Common.{rules}
use Rattle.text_fields.proofs.contents.trim.Goals as goal

pub returns : goal.returns
returns c = search rules
