use Rattle.std.proofs.Common.{◌∙◌, ap, sym, rules, tests, ◌==◌}
use Rattle.std.specs.Prelude.{is_some}
use Rattle.std.proofs.lemmas.Iterator.Splits.{YieldsList-from_slice_split}
use Rattle.std.proofs.lemmas.Iterator.Search.{all_from_yields_List}
use Rattle.model.specs.Names.{later_pattern_of, parts}
use Rattle.text_names.proofs.WildmatLaws.{wildmat_by_parts, all_patterns}
use Rattle.text_names.proofs.patterns.is_wildmat.Goals as goal

pub returns-then-not-begins_negated : goal.returns-then-not-begins_negated
returns-then-not-begins_negated c =
    let text = c.args.text.now in
    all_from_yields_List (λ part. is_some (later_pattern_of part)) _ _ c.all.result c.all.ensures.ran
    (YieldsList-from_slice_split _ (λ x. x == 44) text c.split.ensures.rest c.split.ensures.done c.split.ensures.closure
    (λ x b q. search (rules, tests)))
    (λ x b q k. search (rules, tests))
    ∙ sym (all_patterns (parts 44 text))
    ∙ ap is_some (sym (wildmat_by_parts text (sym c.if-not-begins_negated.ensures)))
