use Rattle.std.proofs.Common.{List, ℕ, length, sym, ◌∙◌, ap}
use Rattle.fs_blocks.proofs.Octets.{length-blocks_from}
use Rattle.journal_volume.proofs.volume.Volume.of.Goals as goal

pub with_sets-requires-clause-count : goal.with_sets-requires-clause-count
with_sets-requires-clause-count c =
    ap (λ (b : List (List ℕ)). length b) c.in_ok-cache.ensures ∙ length-blocks_from c.args.count _ ∙ sym c.in_ok-staged.ensures.bound
