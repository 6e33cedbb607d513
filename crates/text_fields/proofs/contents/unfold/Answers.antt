use Rattle.std.proofs.Common.{rules}
use Rattle.text_fields.proofs.SplitLaws.{unfolded-replaced}
use Rattle.text_fields.proofs.contents.unfold.Goals as goal

pub returns : goal.returns
returns c = search (rules, unfolded-replaced)
