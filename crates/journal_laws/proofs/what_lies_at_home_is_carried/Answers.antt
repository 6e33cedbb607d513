use Rattle.journal_laws.proofs.Gates.{carried_home}
use Rattle.journal_laws.proofs.Standing.{full_open}
use Rattle.journal_laws.proofs.what_lies_at_home_is_carried.Goals as goal

pub returns : goal.returns
returns c image first is = carried_home image first (full_open image) is
