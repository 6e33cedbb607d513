use Rattle.journal.proofs.Order.{one_more_call, one_more_sync, one_more_write}
use Rattle.journal.proofs.stepping.each_call_is_the_next.Goals as goal

pub returns-clause-next : goal.returns-clause-next
returns-clause-next c = one_more_call

pub returns-clause-writes : goal.returns-clause-writes
returns-clause-writes c = one_more_write

pub returns-clause-syncs : goal.returns-clause-syncs
returns-clause-syncs c = one_more_sync
