use Rattle.std.proofs.Common.{◌≤◌, length, sym, subst}
use Rattle.volume_store.specs.Saved.{StoreView}
use Rattle.kernel.specs.Kernel.{most_dirty}
use Rattle.model.specs.declared.change.Change.TheVariants.{Article}
use Rattle.volume_store.proofs.Tied.{added}
use Rattle.volume_store.proofs.store.Store.pack.Goals as goal

pub invariant_of-self : goal.invariant_of-self
invariant_of-self g c =
    let room = subst (λ (s : StoreView g.row.D.Denot). length s.spool.dirty ≤ most_dirty (length s.spool.blocks)) (sym c.self.view_is)
    c.requires.room in
    added g.D.Disk.device c.self.inside.journal c.self.inside.spool c.pack_article.new.spool c.self.inside.durable c.self.invariant
    c.kept.ensures.room.count_few room
    (Article c.args.filing.now) c.pack_article.result c.pack_article.ensures
