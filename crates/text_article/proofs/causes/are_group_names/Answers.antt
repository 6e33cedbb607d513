use Rattle.std.proofs.Common.{rules, tests, ◌∙◌, Bor, List, ℕ}
use Rattle.std.proofs.lemmas.Iterator.{YieldsList-from_slice}
use Rattle.std.proofs.lemmas.Iterator.Search.{all_from_yields_List}
use Rattle.model.specs.Names.{is_group_name}
use Rattle.text_fields.proofs.Borrowed.{all-borrowed}
use Rattle.text_article.proofs.causes.are_group_names.Goals as goal

pub returns : goal.returns
returns c =
    all_from_yields_List (λ (x : Bor (List ℕ)). is_group_name x.now) _ _ c.all.result c.all.ensures.ran
    (YieldsList-from_slice c.args.names.now cc) (λ x b q k. search (rules, tests))
    ∙ all-borrowed is_group_name c.args.names.now
