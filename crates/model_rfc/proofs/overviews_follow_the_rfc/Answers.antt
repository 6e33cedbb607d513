use Rattle.model_rfc.proofs.OverAnswers.{current_is_shown, ids_are_shown, ranges_are_shown}
use Rattle.model_rfc.proofs.overviews_follow_the_rfc.Goals as goal

pub returns : goal.returns
returns c = record { shown = ranges_are_shown; shown_by_id = ids_are_shown; shown_current = current_is_shown }
