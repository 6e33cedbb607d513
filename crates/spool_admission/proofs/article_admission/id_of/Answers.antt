use Rattle.std.proofs.Common.{List, ℕ, [], Option, ap}
use Rattle.std.specs.Prelude.{unwrap_or}
use Rattle.spool_admission.proofs.article_admission.id_of.Goals as goal

pub returns-in-Some : goal.returns-in-Some
returns-in-Some c = ap (λ (o : Option (List ℕ)). unwrap_or o []) c.in-Some.ensures

pub returns-in-None : goal.returns-in-None
returns-in-None c = ap (λ (o : Option (List ℕ)). unwrap_or o []) c.in-None.ensures
