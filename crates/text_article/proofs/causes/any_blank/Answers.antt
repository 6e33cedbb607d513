use Rattle.std.proofs.Common.{rules, tests, ◌∙◌, map, Bor, List, ℕ}
use Rattle.std.proofs.lemmas.Iterator.{YieldsList-from_slice}
use Rattle.std.proofs.lemmas.Iterator.Search.{any_from_yields_List}
use Rattle.text_article.specs.Causes.{is_blank_in}
use Rattle.text_fields.proofs.Borrowed.{any-borrowed}
use Rattle.text_article.proofs.causes.any_blank.Goals as goal

pub returns : goal.returns
returns c =
    any_from_yields_List (λ (x : Bor (List ℕ)). (is_blank_in (map (λ (f : Bor (List ℕ)). f.now) c.args.fields.now)) x.now) _ _ c.any.result
    c.any.ensures.ran (YieldsList-from_slice c.args.names.now cc) (λ x b q k. search (rules, tests))
    ∙ any-borrowed (is_blank_in (map (λ (f : Bor (List ℕ)). f.now) c.args.fields.now)) c.args.names.now
