use Rattle.std.proofs.Common.{◌≡◌, ◌<◌, inl, inr, ℕ, List, [], length, get_or, set, sym, ◌∙◌, ap, arith, length-set}
use Rattle.std.proofs.lemmas.List.{ext_get_or, get_or-set_same, get_or-set_other, length-replicate}
use Rattle.std.proofs.lemmas.Bool.{cases_eq}
use Rattle.model.specs.Volume.{block, blocks_from}
use Rattle.model.proofs.Blocks.{get_or-blocks_from}
use Rattle.fs_blocks.proofs.Octets.{length-blocks_from}
use Rattle.journal_volume.specs.Pieces.{zero_block}
use Rattle.journal_volume.proofs.chunks.Chunks.of.Goals as goal

pub loop-number-init : goal.loop-number-init
loop-number-init c = record {
  size = ap length c.in_ok-chunks.ensures ∙ length-replicate c.args.count zero_block;
  so_far = λ k low. absurd (omega arith);
}

pub loop-number-preserved : goal.loop-number-preserved
loop-number-preserved c =
    let number = c.loop-number.number in
    let blocks = c.loop-number.chunks.blocks in
    let from = c.block_of.result.now in
    let new : c.replace.new.self.blocks ≡ set blocks number from = c.in_ok-replace.ensures in
    record {
      size = ap length new ∙ length-set blocks number from ∙ c.loop-number.invariant.size;
      so_far = λ k low. ap (λ (l : List (List ℕ)). get_or l k []) new ∙ elim (cases_eq k number) [
        | inl is ↦ ap (λ (j : ℕ). get_or (set blocks number from) j []) is
            ∙ get_or-set_same blocks number from [] (omega (arith, c.loop-number.invariant.size))
            ∙ c.block_of.ensures.octets ∙ ap (λ (j : ℕ). block j c.args.octets.now) (sym is)
        | inr other ↦ get_or-set_other blocks number k from [] other ∙ c.loop-number.invariant.so_far k (omega arith)
      ];
    }

pub returns : goal.returns
returns c =
    let count = c.args.count in
    let octets = c.args.octets.now in
    let blocks = c.loop-number.chunks.blocks in
    let size = c.loop-number.invariant.size in
    ext_get_or [] blocks (blocks_from 0 count octets) (size ∙ sym (length-blocks_from count octets)) (λ k low.
    let below : k < count = omega arith in
    c.loop-number.invariant.so_far k (omega arith) ∙ sym (get_or-blocks_from count k octets below))
