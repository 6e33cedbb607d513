use Rattle.std.proofs.Common.{rules}
use Rattle.session_reading.proofs.article_commands.fetch.Goals as goal

pub returns-in-Current : goal.returns-in-Current
returns-in-Current g c = search rules

pub returns-in-Number : goal.returns-in-Number
returns-in-Number g c = search rules
