use Rattle.std.proofs.Common.{arith}
use Rattle.std.proofs.lemmas.Grind.{elements}
use Rattle.spool_index.proofs.article_look_ups.note_in.Goals as goal

pub returns : goal.returns
returns c = grind (arith, elements)
