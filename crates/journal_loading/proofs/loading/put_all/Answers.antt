use Rattle.std.proofs.Common.{◌≡◌, ◌+◌, ℕ, List, length, set, ◌<◌, ◌∙◌, ap, arith}
use Rattle.std.proofs.lemmas.List.{length-set}
use Rattle.model.specs.Volume.{block}
use Rattle.journal_loading.proofs.Loads.{put_more}
use Rattle.journal_loading.proofs.loading.put_all.Goals as goal

pub overflow_cast-k-end : goal.overflow_cast-k-end
overflow_cast-k-end c = omega (arith, c.requires.there, c.requires.few)

pub overflow_add-start : goal.overflow_add-start
overflow_add-start c = omega (arith, c.requires.there, c.requires.few, c.loop-k-test.true)

pub loop-k-preserved : goal.loop-k-preserved
loop-k-preserved c =
    let so_far = c.loop-k.invariant in
    let put : c.replace.new.self.blocks ≡ set c.loop-k.cache.blocks (c.args.start + c.loop-k.k) (block c.loop-k.k c.args.piece.now) =
    c.in_ok-replace.ensures
    ∙ ap (λ (l : List ℕ). set c.loop-k.cache.blocks (c.args.start + c.loop-k.k) l) c.block_of.ensures.octets in
    let there : c.args.start + c.loop-k.k < length c.loop-k.cache.blocks =
    omega (arith, c.loop-k-test.true, c.requires.there, so_far.size) in
    record {
      size = ap (λ (l : List (List ℕ)). length l) put
          ∙ length-set c.loop-k.cache.blocks (c.args.start + c.loop-k.k) (block c.loop-k.k c.args.piece.now) ∙ so_far.size;
      put = put_more c.args.start c.loop-k.k (λ n. block n c.args.piece.now) c.args.cache.now.blocks c.loop-k.cache.blocks
          c.replace.new.self.blocks so_far.put there put;
    }
