-- The number of blocks that a file owns.
use Rattle.std.proofs.Common.{◌≡◌, inl, inr, ◌<◌, ◌≤◌, ℕ, ap, Bool, true, false, cond, ltb, arith}
use Rattle.std.proofs.lemmas.Bool.{cases_lt, lt-ltb, le-ltb}
use Rattle.model.specs.Files.{indirect_for}
use Rattle.model.specs.Room.{blocks_for, content_blocks}

double_le : (m n : ℕ) → m ≤ n → cond (ltb 1 m) 1 0 ≤ cond (ltb 1 n) 1 0
double_le m n le = elim (cases_lt 1 m) [
  | inl some ↦ omega (arith, one (ltb 1 m), is_one n (omega (arith, some, le)))
  | inr few ↦ omega (arith, is_none m few)
]
  where
    one : (b : Bool) → cond b 1 0 ≤ 1
    one true = omega arith
    one false = omega arith

    is_one : (k : ℕ) → 1 < k → ◌≡◌ {A = ℕ} (cond (ltb 1 k) 1 0) 1
    is_one k some = ap (λ (b : Bool). cond b 1 0) (lt-ltb 1 k some)

    is_none : (k : ℕ) → k ≤ 1 → ◌≡◌ {A = ℕ} (cond (ltb 1 k) 1 0) 0
    is_none k few = ap (λ (b : Bool). cond b 1 0) (le-ltb 1 k few)

pub blocks_for_le : (was size : ℕ) → was ≤ size → blocks_for was ≤ blocks_for size
blocks_for_le was size le = omega (
  arith,
  le,
  double_le (indirect_for (content_blocks was)) (indirect_for (content_blocks size)) (omega (arith, le)),
)
