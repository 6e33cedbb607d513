use Rattle.text_fields.proofs.BlankLaws.{are_blank-found}
use Rattle.text_fields.proofs.contents.are_blank.Goals as goal

pub returns : goal.returns
returns c = are_blank-found c.args.octets.now c.find_not_byteset.result c.is_none.result c.find_not_byteset.ensures c.is_none.ensures
