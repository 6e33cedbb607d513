use Rattle.std.proofs.Common.{rules, tests, ◌==◌, length}
use Rattle.std.specs.Prelude.{nat_le}
use Rattle.std.proofs.lemmas.Bool.{le-leb}
use Rattle.std.proofs.lemmas.Iterator.Splits.{YieldsList-from_slice_split}
use Rattle.std.proofs.lemmas.Iterator.Search.{all_from_yields_List}
use Rattle.model.specs.Names.{is_group_octet, is_run_of, is_dotted}
use Rattle.text_names.proofs.Runs.{and_second}
use Rattle.text_names.proofs.checks.is_group_name.Goals as goal

pub returns-then-text-le-GROUP_NAME_LIMIT : goal.returns-then-text-le-GROUP_NAME_LIMIT
returns-then-text-le-GROUP_NAME_LIMIT c =
    let text = c.args.text.now in
    and_second (nat_le (length text) 40) (is_dotted is_group_octet text) c.all.result
    (le-leb (length text) 40 c.if-text-le-GROUP_NAME_LIMIT.true)
    (all_from_yields_List (is_run_of is_group_octet) _ _ c.all.result c.all.ensures.ran
    (YieldsList-from_slice_split _ (λ x. x == 46) text c.split.ensures.rest c.split.ensures.done c.split.ensures.closure
    (λ x b q. search (rules, tests)))
    (λ x b q k. search (rules, tests)))
