use Rattle.journal_laws.proofs.Standing.{unread, unread_open}
use Rattle.journal_laws.proofs.a_closed_segment_is_not_read.Goals as goal

pub returns-clause-stands : goal.returns-clause-stands
returns-clause-stands c old new label blocks s stands shut within same = unread old new label blocks s stands shut within same

pub returns-clause-open : goal.returns-clause-open
returns-clause-open c old new label blocks s held stands shut within same are =
    unread_open old new label blocks s stands shut within same held are
