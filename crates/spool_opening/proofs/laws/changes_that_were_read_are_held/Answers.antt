use Rattle.spool_opening.proofs.Holding.{files_as_many, index_whole, read_held}
use Rattle.spool_opening.proofs.laws.changes_that_were_read_are_held.Goals as goal

pub returns : goal.returns
returns c = record { many = files_as_many; whole = index_whole; held = read_held }
