use Rattle.std.proofs.Common.{rules, tests, ◌∙◌, Bor, List, ℕ, ◌&&◌}
use Rattle.std.specs.List.{list_all}
use Rattle.std.proofs.lemmas.Iterator.{YieldsList-from_slice}
use Rattle.std.proofs.lemmas.Iterator.Search.{any_from_yields_List}
use Rattle.model.specs.Names.{is_blank}
use Rattle.model.specs.Article.{content_of, is_named}
use Rattle.text_fields.proofs.Borrowed.{any-borrowed}
use Rattle.text_fields.proofs.contents.is_blank_field.Goals as goal

pub returns : goal.returns
returns c =
    any_from_yields_List (λ (x : Bor (List ℕ)). (λ (field : List ℕ). is_named c.args.name.now field && list_all is_blank (content_of field))
    x.now) _ _ c.any.result c.any.ensures.ran (YieldsList-from_slice c.args.fields.now cc) (λ x b q k. search (rules, tests))
    ∙ any-borrowed (λ (field : List ℕ). is_named c.args.name.now field && list_all is_blank (content_of field)) c.args.fields.now
