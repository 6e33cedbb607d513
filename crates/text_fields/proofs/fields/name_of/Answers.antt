use Rattle.text_fields.proofs.FieldLaws.{name_of-found, name_of-none}
use Rattle.text_fields.proofs.fields.name_of.Goals as goal

pub returns-in-Some : goal.returns-in-Some
returns-in-Some c = let found = c.in-Some.ensures in name_of-found c.args.field.now c.in-Some.end found.0.high found.0.before found.1

pub returns-in-None : goal.returns-in-None
returns-in-None c = name_of-none c.args.field.now c.in-None.ensures
