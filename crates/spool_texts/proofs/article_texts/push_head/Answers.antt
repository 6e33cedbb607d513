use Rattle.std.proofs.Common.{◌++◌, List, ℕ, drop, length, sym, ◌∙◌, ap}
use Rattle.std.proofs.lemmas.Result.{on_ok_weaker}
use Rattle.model.specs.Article.{header}
use Rattle.model.specs.Files.{content_of, entry}
use Rattle.model.specs.Stream.{stuffed}
use Rattle.spool_texts.proofs.Headers.{head_stands}
use Rattle.spool_texts.proofs.article_texts.push_head.Goals as goal

pub returns : goal.returns
returns g c =
    let blocks = g.B.Blocks.blocks c.args.blocks.now in
    let text = c.place_of-text.result in
    on_ok_weaker c.push_stuffed.result (λ sent S indexed placed.
    let its = c.place_of-text.ensures.text S indexed placed in
    let is = head_stands text.size text.header (drop text.from (content_of blocks (entry c.args.inodes blocks text.inode)))
    c.place_of-text.ensures.size (c.place_of-text.ensures.header S indexed ∙ ap (λ (l : List ℕ). length (header l)) (sym its)) in
    sent ∙ ap (λ (l : List ℕ). c.args.reply.now.items ++ stuffed l) (is ∙ ap header its))
    c.push_stuffed.ensures
