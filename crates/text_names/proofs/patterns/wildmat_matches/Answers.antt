use Rattle.std.proofs.Common.{◌∙◌, rules, tests, ◌==◌, false}
use Rattle.std.specs.Prelude.{unwrap_or}
use Rattle.std.proofs.lemmas.Iterator.Splits.{YieldsList-from_slice_split}
use Rattle.std.proofs.lemmas.Iterator.Consumers.{fold_from_yields_List}
use Rattle.text_names.specs.Patterns.{verdict_of}
use Rattle.text_names.proofs.WildmatLaws.{wildmat_says}
use Rattle.text_names.proofs.patterns.wildmat_matches.Goals as goal

pub returns : goal.returns
returns c =
    let wildmat = c.args.wildmat.now in
    let name = c.args.name.now in
    fold_from_yields_List _ (λ d part. unwrap_or (verdict_of name part) d) false c.fold.result c.fold.ensures.ran
    (YieldsList-from_slice_split _ (λ x. x == 44) wildmat c.split-patterns.ensures.rest c.split-patterns.ensures.done
    c.split-patterns.ensures.closure (λ x b q. search (rules, tests)))
    (λ a x b q k. search (rules, tests))
    ∙ wildmat_says name wildmat c.requires
