use Rattle.std.proofs.Common.{◌∙◌}
use Rattle.std.proofs.lemmas.List.{take_rest}
use Rattle.text_fields.proofs.BlankLaws.{start-found, start-none}
use Rattle.text_fields.proofs.contents.trim_start.Goals as goal

pub returns-in-Some : goal.returns-in-Some
returns-in-Some c =
    let found = c.in-Some.ensures in
    take_rest c.args.text.now c.in-Some.first ∙ start-found c.args.text.now c.in-Some.first found.0.high found.0.before found.1

pub returns-in-None : goal.returns-in-None
returns-in-None c = start-none c.args.text.now c.in-None.ensures
