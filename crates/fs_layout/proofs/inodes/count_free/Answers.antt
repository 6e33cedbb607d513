use Rattle.std.proofs.Common.{◌≡◌, ◌≢◌, ◌⊎◌, inl, inr, ◌≤◌, ℕ, ◌+◌, ◌*◌, eqb, cond, Bool, count_by, List, sym, ◌∙◌, ap, arith}
use Rattle.std.specs.List.{range_with_len}
use Rattle.std.proofs.lemmas.Bool.{ne_eqb, eq-eqb}
use Rattle.model.specs.Volume.{number_at}
use Rattle.fs_layout.proofs.Counts.{count_more}
use Rattle.fs_layout.proofs.inodes.count_free.Goals as goal
use Rattle.fs_layout.proofs.inodes.count_free.Goals.{then-number32-eq0, else-number32-eq0}

more : (block : List ℕ) (n free next value : ℕ) → value ≡ number_at (64 * n) 4 block
    → (free ≤ n) × (free ≡ count_by (λ k. eqb (number_at (64 * k) 4 block) 0) (range_with_len 0 n))
    → ((value ≡ 0) × (next ≡ free + 1)) ⊎ ((value ≢ 0) × (next ≡ free))
    → (next ≤ n + 1) × (next ≡ count_by (λ k. eqb (number_at (64 * k) 4 block) 0) (range_with_len 0 (n + 1)))
more block n free next value is so_far (inl found) = (
  omega (arith, so_far.0, found.1),
  found.1 ∙ ap (λ (m : ℕ). m + 1) so_far.1
      ∙ ap (λ (b : Bool). count_by (λ k. eqb (number_at (64 * k) 4 block) 0) (range_with_len 0 n) + cond b 1 0)
      (sym (eq-eqb (number_at (64 * n) 4 block) 0 (sym is ∙ found.0))) ∙ sym (count_more (λ k. eqb (number_at (64 * k) 4 block) 0) n),
)
more block n free next value is so_far (inr other) =
    let none : count_by (λ k. eqb (number_at (64 * k) 4 block) 0) (range_with_len 0 n) ≡ count_by (λ k. eqb (number_at (64 * k) 4 block) 0)
    (range_with_len 0 n) + 0 = omega arith in (
      omega (arith, so_far.0, other.1),
      other.1 ∙ so_far.1 ∙ none ∙ ap (λ (b : Bool). count_by (λ k. eqb (number_at (64 * k) 4 block) 0) (range_with_len 0 n) + cond b 1 0)
          (sym (ne_eqb (number_at (64 * n) 4 block) 0 (λ zero. other.0 (is ∙ zero))))
          ∙ sym (count_more (λ k. eqb (number_at (64 * k) 4 block) 0) n),
    )

pub loop-place-preserved : goal.loop-place-preserved
loop-place-preserved c =
    more c.args.block.now c.loop-place.place c.loop-place.free c.if-number32-eq0.free c.number32.result c.number32.ensures
    c.loop-place.invariant (elim c.if-number32-eq0.branch [
      | then-number32-eq0 w ↦ inl (w.if-number32-eq0.true, w.free-is)
      | else-number32-eq0 w ↦ inr (w.if-number32-eq0.false, w.free-is)
    ])
