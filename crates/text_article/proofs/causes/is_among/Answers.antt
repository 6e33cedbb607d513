use Rattle.std.proofs.Common.{rules, tests, ◌∙◌, Bor, List, ℕ}
use Rattle.std.specs.Prelude.{bytes_eq}
use Rattle.std.proofs.lemmas.Iterator.{YieldsList-from_slice}
use Rattle.std.proofs.lemmas.Iterator.Search.{any_from_yields_List}
use Rattle.text_fields.proofs.Borrowed.{any-borrowed}
use Rattle.text_article.proofs.causes.is_among.Goals as goal

pub returns : goal.returns
returns c =
    any_from_yields_List (λ (x : Bor (List ℕ)). (bytes_eq c.args.name.now) x.now) _ _ c.any.result c.any.ensures.ran
    (YieldsList-from_slice c.args.names.now cc) (λ x b q k. search (rules, tests))
    ∙ any-borrowed (bytes_eq c.args.name.now) c.args.names.now
