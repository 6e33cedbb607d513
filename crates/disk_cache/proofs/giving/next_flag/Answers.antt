use Rattle.std.proofs.Common.{◌≡◌, ◌≤◌, ℕ, ◌+◌, ◌-◌, List, length, get_or, take, drop, ◌∙◌, ap, arith, length-drop}
use Rattle.std.proofs.lemmas.List.{take_rest, get_or-drop}
use Rattle.std.proofs.lemmas.Bool.{eq-eqb}
use Rattle.memchr.specs.Find.{Passes, is_byte}
use Rattle.disk_cache.proofs.giving.next_flag.Goals as goal

-- the rest of the flags, as a slice has them
rest_at : (flags : List ℕ) (from k : ℕ) → from ≤ k → get_or (take (length flags - from) (drop from flags)) (k - from) 0 ≡ get_or flags k 0
rest_at flags from k low =
    let place : from + (k - from) ≡ k = omega (arith, low) in
    ap (λ (l : List ℕ). get_or l (k - from) 0) (take_rest flags from) ∙ get_or-drop from flags (k - from) 0
    ∙ ap (λ (n : ℕ). get_or flags n 0) place

passes : (flags : List ℕ) (from k : ℕ) → from ≤ k → get_or flags k 0 ≡ 1
    → Passes (is_byte 1) (take (length flags - from) (drop from flags)) (k - from)
passes flags from k low is = eq-eqb (get_or (take (length flags - from) (drop from flags)) (k - from) 0) 1 (rest_at flags from k low ∙ is)

pub returns-in-Some-clause-none : goal.returns-in-Some-clause-none
returns-in-Some-clause-none c k low high is =
    c.in-Some.ensures.0.before (k - c.args.from) (omega arith) (omega (arith, low, high)) (passes c.args.flags.now c.args.from k low is)

pub returns-in-None-clause-none : goal.returns-in-None-clause-none
returns-in-None-clause-none c k low high is =
    c.in-None.ensures (k - c.args.from) (omega arith)
    (omega (arith, low, high, length-drop c.args.from c.args.flags.now))
    (passes c.args.flags.now c.args.from k low is)
