use Rattle.text_fields.proofs.BlankLaws.{end-found, end-none}
use Rattle.text_fields.proofs.contents.trim_end.Goals as goal

pub returns-in-Some : goal.returns-in-Some
returns-in-Some c =
    let found = c.in-Some.ensures in end-found c.args.text.now c.in-Some.last found.0.high found.0.after found.1

pub returns-in-None : goal.returns-in-None
returns-in-None c = end-none c.args.text.now c.in-None.ensures
