use Rattle.std.proofs.Common.{rules, tests, ◌∙◌, map, Bor, List, ℕ, ◌==◌}
use Rattle.std.specs.Prelude.{count_by}
use Rattle.std.proofs.lemmas.Iterator.{YieldsList-from_slice}
use Rattle.std.proofs.lemmas.Iterator.Search.{any_from_yields_List}
use Rattle.model.specs.Article.{is_named}
use Rattle.text_fields.proofs.Borrowed.{any-borrowed}
use Rattle.text_article.proofs.causes.any_missing.Goals as goal

pub returns : goal.returns
returns c =
    any_from_yields_List (λ (x : Bor (List ℕ)).
    (λ (name : List ℕ). count_by (is_named name) (map (λ (f : Bor (List ℕ)). f.now) c.args.fields.now) == 0) x.now) _ _ c.any.result
    c.any.ensures.ran (YieldsList-from_slice c.args.names.now cc) (λ x b q k. search (rules, tests))
    ∙ any-borrowed (λ (name : List ℕ). count_by (is_named name) (map (λ (f : Bor (List ℕ)). f.now) c.args.fields.now) == 0) c.args.names.now
