use Rattle.std.proofs.Common.{rules}
use Rattle.session_reading.proofs.article_commands.number_in.Goals as goal

pub returns-in-None : goal.returns-in-None
returns-in-None c = search rules
