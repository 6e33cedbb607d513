use Rattle.std.proofs.Common.{sym, ◌∙◌}
use Rattle.text_fields.proofs.ContentLaws.{blank-empty}
use Rattle.text_fields.proofs.contents.is_blank_text.Goals as goal

pub returns : goal.returns
returns c = sym (blank-empty c.loop-rest.rest.now (sym c.loop-rest-test.ensures)) ∙ c.loop-rest.invariant
