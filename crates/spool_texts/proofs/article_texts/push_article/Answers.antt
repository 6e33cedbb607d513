use Rattle.std.proofs.Common.{◌++◌, List, ℕ, ◌∙◌, ap}
use Rattle.std.proofs.lemmas.Result.{on_ok_weaker}
use Rattle.model.specs.Stream.{stuffed}
use Rattle.spool_texts.proofs.article_texts.push_article.Goals as goal

pub returns : goal.returns
returns g c =
    on_ok_weaker c.push_stuffed.result (λ is S indexed placed. is
    ∙ ap (λ (l : List ℕ). c.args.reply.now.items ++ stuffed l) (c.place_of-text.ensures.text S indexed placed)) c.push_stuffed.ensures
