use Rattle.std.proofs.Common.{rules}
use Rattle.text_fields.proofs.NameLaws.{other-name}
use Rattle.text_fields.proofs.contents.is_named.Goals as goal

pub returns : goal.returns
returns c = search rules

pub returns-then-field-name-ne58 : goal.returns-then-field-name-ne58
returns-then-field-name-ne58 c = other-name c.args.name.now c.args.field.now c.if-name-field.true c.if-field-name-ne58.true
