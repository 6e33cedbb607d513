use Rattle.std.proofs.Common.{rules, tests, ◌∙◌, ap, Bor, List, ℕ}
use Rattle.std.specs.Prelude.{option_map}
use Rattle.std.proofs.lemmas.Iterator.{YieldsList-from_slice}
use Rattle.std.proofs.lemmas.Iterator.Search.{find_from_yields_List}
use Rattle.model.specs.Article.{is_named}
use Rattle.text_fields.proofs.Borrowed.{find-borrowed}
use Rattle.text_fields.proofs.contents.find_field.Goals as goal

pub returns : goal.returns
returns c =
    let name = c.args.name.now in
    ap (option_map (λ (f : Bor (List ℕ)). f.now)) (c.copied.ensures
    ∙ find_from_yields_List (λ (f : Bor (List ℕ)). is_named name f.now) _ _ c.find.result c.find.ensures.ran
    (YieldsList-from_slice c.args.fields.now cc) (λ x b q k. search (rules, tests)))
    ∙ find-borrowed (is_named name) c.args.fields.now
