use Rattle.std.proofs.Common.{◌≡◌, ◌*◌, length}
use Rattle.model.specs.Volume.{block}
use Rattle.journal_loading.specs.Opening.{ArePut}
use Rattle.journal_loading.proofs.loading.put_all.Given as goal

abbrev pub invariant-loop-k : goal.invariant-loop-k
invariant-loop-k l = record {
  size : length l.cache.blocks ≡ length l.fn.cache.blocks;
  put : ArePut l.start (4096 * l.k) (λ n. block n l.fn.piece) l.fn.cache.blocks l.cache.blocks;
}
