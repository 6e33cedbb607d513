use Rattle.session_replies.proofs.Pieced.{pieces_follow, pieces_make}
use Rattle.session_replies.proofs.stuffing.pieces_make_the_text.Goals as goal

pub returns-clause-text : goal.returns-clause-text
returns-clause-text c = pieces_make

pub returns-clause-follow : goal.returns-clause-follow
returns-clause-follow c = pieces_follow
