use Rattle.journal_laws.proofs.Standing.{format_open, format_unread}
use Rattle.journal_laws.proofs.the_gates_of_the_format_are_not_read.Goals as goal

pub returns-clause-stands : goal.returns-clause-stands
returns-clause-stands c old new label blocks stands tears = format_unread old new label blocks stands tears

pub returns-clause-open : goal.returns-clause-open
returns-clause-open c old new label blocks held stands tears are = format_open old new label blocks stands tears held are
