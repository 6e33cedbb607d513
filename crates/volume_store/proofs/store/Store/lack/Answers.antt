use Rattle.std.proofs.Common.{◌≡◌, subst}
use Rattle.model.specs.declared.change.Change.TheVariants.{Article}
use Rattle.volume_store.specs.Room.{lack_for}
use Rattle.volume_store.specs.Saved.{StoreView}
use Rattle.volume_store.proofs.store.Store.lack.Goals as goal

pub returns : goal.returns
returns g c = λ filing.
    subst (λ (s : StoreView g.row.D.Denot). c.lack_for_articles.result ≡ lack_for s.spool (Article filing)) c.self.view_is
    (c.lack_for_articles.ensures filing)
