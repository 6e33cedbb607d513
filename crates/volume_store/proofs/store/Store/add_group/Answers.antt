use Rattle.std.proofs.Common.{◌≤◌, length, sym, subst}
use Rattle.volume_store.specs.Saved.{StoreView}
use Rattle.kernel.specs.Kernel.{most_dirty}
use Rattle.volume_store.proofs.Tied.{asked}
use Rattle.volume_store.proofs.store.Store.add_group.Goals as goal

pub invariant_of-self : goal.invariant_of-self
invariant_of-self g c =
    let room = subst (λ (s : StoreView g.row.D.Denot). length s.spool.dirty ≤ most_dirty (length s.spool.blocks)) (sym c.self.view_is)
    c.requires.room in
    asked g.D.Disk.device c.self.inside.journal c.self.inside.spool c.add_group.new.self c.self.inside.durable c.self.invariant
    c.kept.ensures.room.count_few room _ _ _ c.add_group.result _ c.add_group.ensures
