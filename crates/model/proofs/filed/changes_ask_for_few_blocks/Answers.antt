use Rattle.model.proofs.Asking.{changes_ask_few, files_grow_by_blocks, not_full_room}
use Rattle.model.proofs.filed.changes_ask_for_few_blocks.Goals as goal

pub returns : goal.returns
returns c = record { grow = files_grow_by_blocks; few = changes_ask_few; room = not_full_room }
