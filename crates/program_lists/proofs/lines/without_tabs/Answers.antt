use Rattle.std.proofs.Common.{◌≡◌, ◌∙◌, sym, rules, tests, ◌==◌, not}
use Rattle.std.specs.List.{position}
use Rattle.std.proofs.lemmas.Iterator.{YieldsList-from_slice}
use Rattle.std.proofs.lemmas.Iterator.Search.{position_from_yields_List}
use Rattle.program_lists.proofs.Listing.{from_no_tab, only_tabs}
use Rattle.program_lists.proofs.lines.without_tabs.Goals as goal

pub returns-in-Some : goal.returns-in-Some
returns-in-Some c =
    let found : c.position.result ≡ position (λ x. not (x == 9)) c.args.text.now =
    position_from_yields_List (λ x. not (x == 9)) _ _ c.position.result c.position.ensures.ran
    (YieldsList-from_slice c.args.text.now cc) (λ x b q k. search (rules, tests)) in
    from_no_tab c.args.text.now c.in-Some.at (sym c.in-Some.is ∙ found)

pub returns-in-None : goal.returns-in-None
returns-in-None c =
    let found : c.position.result ≡ position (λ x. not (x == 9)) c.args.text.now =
    position_from_yields_List (λ x. not (x == 9)) _ _ c.position.result c.position.ensures.ran
    (YieldsList-from_slice c.args.text.now cc) (λ x b q k. search (rules, tests)) in
    only_tabs c.args.text.now (sym c.in-None.is ∙ found)
