use Rattle.std.proofs.Common.{◌*◌, ◌<◌, ℕ, List, length, sym, ◌∙◌, ap, subst}
use Rattle.std.specs.List.{All}
use Rattle.volume_store.proofs.Batches.{images_whole}
use Rattle.volume_store.proofs.batch_writing.write.Goals as goal

pub write_batch-requires-clause-images : goal.write_batch-requires-clause-images
write_batch-requires-clause-images g c =
    let s = c.args.spool.now in
    let below : All (λ n. n < length s.blocks) s.dirty =
    subst (λ (ns : List ℕ). All (λ n. n < length s.blocks) ns) c.copy_dirty.ensures.numbers c.copy_dirty.ensures.below in
    images_whole s c.copy_dirty.new.into.images c.kept.ensures below c.copy_dirty.ensures.images
    ∙ ap (λ (ns : List ℕ). 4096 * length ns) (sym c.copy_dirty.ensures.numbers)
