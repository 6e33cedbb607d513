use Rattle.std.proofs.Common.{◌≡◌, ◌∙◌, sym, length, rules, tests}
use Rattle.std.specs.Prelude.{◌&&◌, nat_le}
use Rattle.std.specs.List.{list_all}
use Rattle.std.proofs.lemmas.Bool.{and_from, and_left, and_right, le-leb}
use Rattle.std.proofs.lemmas.Iterator.{YieldsList-from_slice}
use Rattle.std.proofs.lemmas.Iterator.Search.{all_from_yields_List}
use Rattle.model.specs.Names.{is_visible}
use Rattle.text_names.proofs.Runs.{and_second}
use Rattle.text_names.proofs.checks.is_message_id.Goals as goal

pub returns-then-all : goal.returns-then-all
returns-then-all c =
    let text = c.args.text.now in
    let visible : c.all.result ≡ list_all is_visible text =
    all_from_yields_List is_visible _ _ c.all.result c.all.ensures.ran (YieldsList-from_slice text cc) (λ x b q k. search (rules, tests)) in
    let size = and_from (nat_le 3 (length text)) (nat_le (length text) 250) (le-leb 3 (length text) c.if-text-lt3.false)
    (le-leb (length text) 250 c.if-text-gt-MESSAGE_ID_LIMIT.false) in
    and_second (nat_le 3 (length text) && nat_le (length text) 250) _ c.has_brackets.result size
    (and_second (list_all is_visible text) _ c.has_brackets.result (sym visible ∙ c.if-all.true) c.has_brackets.ensures)

pub returns-else-all : goal.returns-else-all
returns-else-all c =
    let text = c.args.text.now in
    let visible : c.all.result ≡ list_all is_visible text =
    all_from_yields_List is_visible _ _ c.all.result c.all.ensures.ran (YieldsList-from_slice text cc) (λ x b q k. search (rules, tests)) in
    c.if-all.false
    ∙ sym (and_right (nat_le 3 (length text) && nat_le (length text) 250) _
    (and_left (list_all is_visible text) _ (sym visible ∙ c.if-all.false)))
