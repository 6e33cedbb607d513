use Rattle.std.proofs.Common.{rules}
use Rattle.model.specs.Answer.{command_answer}
use Rattle.model.specs.Reads.{command_reads}
use Rattle.session_replies.proofs.Lined.{ok_answers}
use Rattle.session.proofs.commands.command.Goals as goal

pub returns-in-Capabilities : goal.returns-in-Capabilities
unfolding command_answer command_reads
returns-in-Capabilities g c = ok_answers _ _ _ _ _ (search rules)

pub returns-in-ModeReader : goal.returns-in-ModeReader
unfolding command_answer command_reads
returns-in-ModeReader g c = ok_answers _ _ _ _ _ (search rules)

pub returns-in-Quit : goal.returns-in-Quit
unfolding command_answer command_reads
returns-in-Quit g c = ok_answers _ _ _ _ _ (search rules)

pub returns-in-Help : goal.returns-in-Help
unfolding command_answer command_reads
returns-in-Help g c = ok_answers _ _ _ _ _ (search rules)

pub returns-in-Date : goal.returns-in-Date
unfolding command_answer command_reads
returns-in-Date g c = ok_answers _ _ _ _ _ (search rules)

pub returns-in-Group : goal.returns-in-Group
unfolding command_answer command_reads
returns-in-Group g c = ok_answers _ _ _ _ _ (search rules)

pub returns-in-ListGroup : goal.returns-in-ListGroup
unfolding command_answer command_reads
returns-in-ListGroup g c = ok_answers _ _ _ _ _ (search rules)

pub returns-in-Next : goal.returns-in-Next
unfolding command_answer command_reads
returns-in-Next g c = ok_answers _ _ _ _ _ (search rules)

pub returns-in-Last : goal.returns-in-Last
unfolding command_answer command_reads
returns-in-Last g c = ok_answers _ _ _ _ _ (search rules)

pub returns-in-Fetch : goal.returns-in-Fetch
unfolding command_answer command_reads
returns-in-Fetch g c = ok_answers _ _ _ _ _ (search rules)

pub returns-in-Over : goal.returns-in-Over
unfolding command_answer command_reads
returns-in-Over g c = search rules

pub returns-in-List : goal.returns-in-List
unfolding command_answer command_reads
returns-in-List g c = ok_answers _ _ _ _ _ (search rules)

pub returns-in-NewGroups : goal.returns-in-NewGroups
unfolding command_answer command_reads
returns-in-NewGroups g c = ok_answers _ _ _ _ _ (search rules)

pub returns-in-NewNews : goal.returns-in-NewNews
unfolding command_answer command_reads
returns-in-NewNews g c = ok_answers _ _ _ _ _ (search rules)

pub returns-in-Post : goal.returns-in-Post
unfolding command_answer command_reads
returns-in-Post g c = ok_answers _ _ _ _ _ (search rules)

pub returns-in-Ihave : goal.returns-in-Ihave
unfolding command_answer command_reads
returns-in-Ihave g c = ok_answers _ _ _ _ _ (search rules)
