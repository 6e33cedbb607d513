use Rattle.std.proofs.Common.{◌∙◌, ap, sym}
use Rattle.volume_store.specs.Room.{lack_for}
use Rattle.volume_store.proofs.missing_room.lack_for.Goals as goal

pub returns-in-Article : goal.returns-in-Article
returns-in-Article c = c.lack_for_articles.ensures c.in-Article.field-0 ∙ ap (lack_for c.args.spool.now) (sym c.in-Article.is)
