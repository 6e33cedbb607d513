use Rattle.model_rfc.proofs.Fetching.{by_id_stays, by_number_selects, list_groups}
use Rattle.model_rfc.proofs.Finding.{current_is_sent, found_by_id, found_by_number}
use Rattle.model_rfc.proofs.articles_follow_the_rfc.Goals as goal

pub returns : goal.returns
returns c =
    record {
      listed = list_groups;
      by_id = by_id_stays;
      by_number = by_number_selects;
      found_by_id = found_by_id;
      found_by_number = found_by_number;
      current = current_is_sent;
    }
