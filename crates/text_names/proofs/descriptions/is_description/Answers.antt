use Rattle.std.proofs.Common.{rules, tests, length}
use Rattle.std.specs.List.{list_all}
use Rattle.std.specs.Prelude.{nat_le}
use Rattle.std.proofs.lemmas.Bool.{le-leb}
use Rattle.std.proofs.lemmas.Iterator.{YieldsList-from_slice}
use Rattle.std.proofs.lemmas.Iterator.Search.{all_from_yields_List}
use Rattle.model.specs.Lawful.{is_description_octet}
use Rattle.text_names.proofs.Runs.{and_second}
use Rattle.text_names.proofs.descriptions.is_description.Goals as goal

pub returns-then-text-le-DESCRIPTION_LIMIT : goal.returns-then-text-le-DESCRIPTION_LIMIT
returns-then-text-le-DESCRIPTION_LIMIT c =
    let text = c.args.text.now in
    and_second (nat_le (length text) 200) (list_all is_description_octet text) c.all.result
    (le-leb (length text) 200 c.if-text-le-DESCRIPTION_LIMIT.true)
    (all_from_yields_List is_description_octet _ _ c.all.result c.all.ensures.ran (YieldsList-from_slice text cc)
    (λ x b q k. search (rules, tests)))
