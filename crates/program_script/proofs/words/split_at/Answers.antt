use Rattle.std.proofs.Common.{◌≡◌, ◌∙◌, sym, rules, tests, ◌==◌}
use Rattle.std.specs.List.{position}
use Rattle.std.proofs.lemmas.Iterator.{YieldsList-from_slice}
use Rattle.std.proofs.lemmas.Iterator.Search.{position_from_yields_List}
use Rattle.program_script.proofs.Cuts.{parted, unparted}
use Rattle.program_script.proofs.words.split_at.Goals as goal

pub returns-in_err-at : goal.returns-in_err-at
returns-in_err-at c =
    let found : c.position.result ≡ position (λ x. x == c.args.octet) c.args.text.now =
    position_from_yields_List (λ x. x == c.args.octet) _ _ c.position.result c.position.ensures.ran
    (YieldsList-from_slice c.args.text.now cc) (λ x b q k. search (rules, tests)) in
    let none = unparted c.args.octet c.args.text.now (sym c.in_err-at.was ∙ found) in
    rw c.from_residual.ensures none

pub returns : goal.returns
returns c =
    let found : c.position.result ≡ position (λ x. x == c.args.octet) c.args.text.now =
    position_from_yields_List (λ x. x == c.args.octet) _ _ c.position.result c.position.ensures.ran
    (YieldsList-from_slice c.args.text.now cc) (λ x b q k. search (rules, tests)) in
    parted c.args.octet c.args.text.now c.in_ok-at.at (sym c.in_ok-at.was ∙ found)
