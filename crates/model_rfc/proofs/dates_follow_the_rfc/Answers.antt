use Rattle.model_rfc.proofs.Dating.{date_tells}
use Rattle.model_rfc.proofs.News.{new_groups_are_listed, news_is_listed}
use Rattle.model_rfc.proofs.dates_follow_the_rfc.Goals as goal

pub returns : goal.returns
returns c = record { date = date_tells; new_groups = new_groups_are_listed; news = news_is_listed }
