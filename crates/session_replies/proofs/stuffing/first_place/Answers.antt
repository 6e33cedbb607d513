use Rattle.std.proofs.Common.{◌≡◌, ℕ, ◌+◌, ◌-◌, ◌==◌, get_or, length, drop, inl, inr, refl, sym, ◌∙◌, ap, arith, length-drop}
use Rattle.std.proofs.lemmas.Bool.{cases_lt}
use Rattle.std.proofs.lemmas.List.{get_or-drop, take_rest}
use Rattle.memchr.specs.Find.{Nowhere, Passes, is_byte}
use Rattle.model.specs.Stream.{Octets}
use Rattle.session_replies.proofs.stuffing.first_place.Goals as goal

same : (xs part : Octets) (near j k : ℕ) → part ≡ drop near xs → near + j ≡ k → get_or part j 0 ≡ get_or xs k 0
same xs part near j k is e = ap (λ (os : Octets). get_or os j 0) is ∙ get_or-drop near xs j 0 ∙ ap (λ (n : ℕ). get_or xs n 0) e

-- nowhere near, and nowhere farther
nowhere : (octet : ℕ) (xs part : Octets) (near n : ℕ) → part ≡ drop near xs → Nowhere (Passes (is_byte octet) xs) 0 near
    → Nowhere (Passes (is_byte octet) part) 0 n → Nowhere (Passes (is_byte octet) xs) 0 (near + n)
nowhere octet xs part near n is here there k low below found =
    elim (cases_lt k near) [
      | inl first ↦ here k low first found
      | inr past ↦
          there (k - near) (omega arith) (omega arith)
          (ap (λ (o : ℕ). o == octet) (same xs part near (k - near) k is (omega arith)) ∙ found)
    ]

pub returns-in_err-far : goal.returns-in_err-far
returns-in_err-far c =
    let xs = c.args.octets.now in
    let near = c.min-near.result in
    let part = take_rest xs near in
    let all = nowhere c.args.octet xs _ near _ part (λ k low below. c.loop-place.invariant k low (omega arith)) c.in_err-far.ensures in
    rw c.from_residual.ensures
    (λ k low below. all k low (omega (arith, ap length part, length-drop near xs)))

pub returns : goal.returns
returns c =
    let xs = c.args.octets.now in
    let near = c.min-near.result in
    let part = take_rest xs near in
    let first = c.in_ok-far.ensures.0 in (
      record {
        low = omega arith;
        high = omega (arith, first.high, ap length part, length-drop near xs);
        before = nowhere c.args.octet xs _ near _ part (λ k low below. c.loop-place.invariant k low (omega arith)) first.before;
      },
      ap (λ (o : ℕ). o == c.args.octet) (sym (same xs _ near c.in_ok-far.far _ part refl)) ∙ c.in_ok-far.ensures.1,
    )
