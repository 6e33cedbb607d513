use Rattle.text_framing.proofs.StandsLaws.{stands_when_fed, stands_when_found, stands_when_none}
use Rattle.text_framing.proofs.stands_for_the_stream.Goals as goal

pub returns-clause-fed : goal.returns-clause-fed
returns-clause-fed c = stands_when_fed

pub returns-clause-found : goal.returns-clause-found
returns-clause-found c = stands_when_found

pub returns-clause-none : goal.returns-clause-none
returns-clause-none c = stands_when_none
