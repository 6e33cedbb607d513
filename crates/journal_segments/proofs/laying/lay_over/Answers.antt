use Rattle.std.proofs.Common.{◌≡◌, ◌+◌, ◌-◌, ◌*◌, ℕ, List, [], ◌++◌, ◌≤◌, length, get_or, map, take, drop, inl, inr, sym, ◌∙◌, ap, subst}
use Rattle.std.proofs.Common.{arith}
use Rattle.std.proofs.lemmas.Bool.{cases_eq}
use Rattle.model.specs.Volume.{all_laid_over, block}
use Rattle.journal_laws.specs.Held.{batches_of}
use Rattle.journal_segments.specs.Staged.{held_as}
use Rattle.journal_segments.proofs.Pieces.{replaced_size, replaced_here, replaced_apart}
use Rattle.journal_segments.proofs.laying.lay_over.Goals as goal

pub loop-k-preserved : goal.loop-k-preserved
loop-k-preserved c =
    let k = c.loop-k.k in
    let so_far = c.loop-k.invariant in
    let new = c.lay_over_block.new.octets in
    let whole = c.lay_over_block.ensures.whole in
    let some : 4096 * k + 4096 - 4096 * k ≡ 4096 = omega arith in
    let there : 4096 * k + 4096 ≤ length c.loop-k.octets = omega (arith, c.loop-k-test.true, so_far.size) in
    let here = replaced_here k (4096 * k + 4096 - 4096 * k) c.loop-k.octets new whole some there in
    let apart = replaced_apart k (4096 * k + 4096 - 4096 * k) c.loop-k.octets new whole some there in
    let replaced : List ℕ = take (4096 * k) c.loop-k.octets
    ++ (new ++ drop (4096 * k + 4096 - 4096 * k) (drop (4096 * k) c.loop-k.octets)) in
    record {
      size = replaced_size k (4096 * k + 4096 - 4096 * k) c.loop-k.octets new whole some there ∙ so_far.size;
      left = λ j later fits. apart j (omega (arith, later)) ∙ so_far.left j (omega (arith, later)) fits;
      laid = λ blocks j below fits within home. elim (cases_eq j k) [
        | inr other ↦ so_far.laid blocks j (omega (arith, below, other)) fits within home ∙ sym (apart j other)
        | inl same ↦
            let laid : List (List ℕ) = all_laid_over blocks (batches_of (map held_as (take c.args.n c.args.room.now.items))) in
            let home_k = subst (λ (n : ℕ). get_or blocks (c.args.start + n) [] ≡ block n c.args.octets.now) same home in
            let was = sym (so_far.left k (omega arith) (omega (arith, so_far.size, there)))
            ∙ ap (λ (n : ℕ). take n (drop (4096 * k) c.loop-k.octets)) (sym some) in
            ap (λ (n : ℕ). get_or laid (c.args.start + n) []) same
            ∙ c.lay_over_block.ensures.laid blocks (omega (arith, same, within)) (home_k ∙ was)
            ∙ sym (ap (λ (n : ℕ). block n replaced) same ∙ here)
      ];
    }
