use Rattle.model_rfc.proofs.Refusing.{bad_501}
use Rattle.model_rfc.proofs.Released.{releases_are_read}
use Rattle.model_rfc.proofs.Marks.{marked_turns_come}
use Rattle.model_rfc.proofs.Taking.{good_not_501}
use Rattle.model_rfc.proofs.Sessions.{follows, keep_step, sessions_keep_step}
use Rattle.model_rfc.proofs.answers_follow_the_rfc.Goals as goal

pub returns : goal.returns
returns c =
    record {
      answers = follows;
      bad = bad_501;
      good = good_not_501;
      clients = keep_step;
      sessions = sessions_keep_step;
      released = releases_are_read;
      marked = marked_turns_come;
    }
