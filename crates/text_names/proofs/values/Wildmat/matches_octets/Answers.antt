use Rattle.std.proofs.Common.{rules}
use Rattle.text_names.proofs.values.Wildmat.matches_octets.Goals as goal

pub returns : goal.returns
returns c = search rules
