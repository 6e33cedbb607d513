use Rattle.std.proofs.Common.{List, ℕ, length, ap, arith}
use Rattle.std.specs.Prelude.{nat_le}
use Rattle.std.proofs.lemmas.Bool.{and_parts, leb-true}
use Rattle.model.specs.Article.{header}
use Rattle.model.proofs.HoldsOne.{carried_short, carried_size}
use Rattle.spool_admission.proofs.article_admission.lengths_of.Goals as goal

pub overflow_cast-result : goal.overflow_cast-result
overflow_cast-result c =
    omega (arith, carried_size c.args.article.now c.requires, ap (λ (o : List ℕ). length o) c.text.ensures)

pub overflow_cast-result-2 : goal.overflow_cast-result-2
overflow_cast-result-2 c =
    let text = c.args.article.now in
    omega (
      arith,
      leb-true (length (header text)) 8192
          (and_parts (nat_le (length (header text)) 8192) (nat_le (length text) 262144) (carried_short text c.requires)).0,
      ap (λ (o : List ℕ). length o) c.header.ensures,
    )
