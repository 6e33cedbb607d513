-- The order of the calls.
use Rattle.std.proofs.Common.{◌≡◌, ◌≢◌, ◌<◌, ◌≤◌, ℕ, zero, suc, ◌+◌, ◌*◌, eqb, List, [], ◌∷◌, length, get_or, take, if◌then◌else◌, refl}
use Rattle.std.proofs.Common.{sym, ◌∙◌, ap, arith}
use Rattle.std.specs.List.{sum}
use Rattle.std.proofs.lemmas.Bool.{cond_both, eqb-true, eqb-false}
use Rattle.std.proofs.lemmas.List.{take_more}
use Rattle.std.proofs.lemmas.List.Sums.{sum_by-append, sum_by-cons, sum_by-take-le}
use Rattle.std.proofs.Math.Seq.{take-length}
use Rattle.journal.specs.Order.{Carried, all_calls, calls_made, closings, following, is_sync, syncs_made, writes_made}
use Rattle.journal.specs.Inside.{IsWithin}
use Rattle.journal.specs.declared.Next.{Next}
use Rattle.journal.specs.declared.Next.TheVariants.{Idle, Descriptor, Image, Seal, OpenGate, Commit, Home, Settle, Close, Finish}
use Rattle.journal.proofs.Flights.{after_commit, after_gate, after_home, after_image, carried_where, closings_none}

-- sums of the first sizes
sum_more : (sizes : List ℕ) (j : ℕ) → j < length sizes → sum (take (j + 1) sizes) ≡ sum (take j sizes) + get_or sizes j 0
sum_more sizes j within =
    ap sum (take_more sizes j 0 within) ∙ sum_by-append (λ x. x) (take j sizes) (get_or sizes j 0 ∷ [])
    ∙ ap (λ (n : ℕ). sum (take j sizes) + n) (sum_by-cons (λ x. x) (get_or sizes j 0) [] ∙ last (get_or sizes j 0))
  where
    last : (n : ℕ) → n + 0 ≡ n
    last n = omega arith

sum_whole : (sizes : List ℕ) (j : ℕ) → j + 1 ≡ length sizes → sum sizes ≡ sum (take j sizes) + get_or sizes j 0
sum_whole sizes j is = sym (ap sum (ap (λ (k : ℕ). take k sizes) is ∙ take-length sizes)) ∙ sum_more sizes j (omega (arith, is))

-- a size that isn't zero is that of one of them
within_sizes : (sizes : List ℕ) (j i : ℕ) → i + 1 ≡ get_or sizes j 0 → j < length sizes
within_sizes [] zero i is = absurd (omega (arith, is))
within_sizes [] (suc j) i is = absurd (omega (arith, is))
within_sizes (n ∷ sizes) zero i is = omega arith
within_sizes (n ∷ sizes) (suc j) i is = omega (arith, within_sizes sizes j i is)

pub all_where : (n : ℕ) (carried : Carried) → 0 < length carried.counts
    → all_calls n carried ≡ n + 5 + sum carried.counts + 2 * closings carried
all_where n carried some = cond_both (eqb (length carried.counts) 0) (n + 4) (n + 5 + sum carried.counts + 2 * closings carried)
    (λ k. k ≡ n + 5 + sum carried.counts + 2 * closings carried) (λ e. absurd (omega (arith, some, eqb-true (length carried.counts) 0 e)))
    (λ e. refl)

pub all_none : (n : ℕ) (carried : Carried) → length carried.counts ≡ 0 → all_calls n carried ≡ n + 4
all_none n carried none = cond_both (eqb (length carried.counts) 0) (n + 4) (n + 5 + sum carried.counts + 2 * closings carried)
    (λ k. k ≡ n + 4) (λ e. refl)
    (λ e. absurd (eqb-false (length carried.counts) 0 e none))

pub syncs_where : (carried : Carried) → 0 < length carried.counts → syncs_made carried Idle ≡ 3 + closings carried
syncs_where carried some = cond_both (eqb (length carried.counts) 0) 2 (3 + closings carried) (λ k. k ≡ 3 + closings carried)
    (λ e. absurd (omega (arith, some, eqb-true (length carried.counts) 0 e))) (λ e. refl)

pub syncs_none : (carried : Carried) → length carried.counts ≡ 0 → syncs_made carried Idle ≡ 2
syncs_none carried none = cond_both (eqb (length carried.counts) 0) 2 (3 + closings carried) (λ k. k ≡ 2) (λ e. refl)
    (λ e. absurd (eqb-false (length carried.counts) 0 e none))

no_sum : (sizes : List ℕ) → length sizes ≡ 0 → sum sizes ≡ 0
no_sum [] none = refl
no_sum (n ∷ sizes) none = absurd (omega (arith, none))

-- each call is the next one
pub one_more_call : (n : ℕ) (carried : Carried) (next : Next) → next ≢ Idle
    → calls_made n carried (following n carried next) ≡ calls_made n carried next + 1
one_more_call n carried Idle other = absurd (other refl)
one_more_call n carried Descriptor other = omega arith
one_more_call n carried (Image i) other =
    after_image (λ g. calls_made n carried g ≡ 1 + i + 1) n carried i (λ e. omega (arith, e)) (λ e. omega arith)
one_more_call n carried Seal other = omega arith
one_more_call n carried OpenGate other = omega arith
one_more_call n carried Commit other =
    after_commit (λ g. calls_made n carried g ≡ n + 3 + 1) n carried (λ e. omega (arith, all_none n carried e))
    (λ e. first (take 0 carried.counts) refl)
  where
    first : (none : List ℕ) → none ≡ [] → n + 4 + sum none + 0 ≡ n + 3 + 1
    first none is = omega (arith, ap sum is)
one_more_call n carried (Home j i) other =
    after_home (λ g. calls_made n carried g ≡ n + 4 + sum (take j carried.counts) + i + 1) n carried j i
    (λ e d. omega (arith, e, sum_whole carried.counts j d))
    (λ e d. omega (arith, e, sum_more carried.counts j (within_sizes carried.counts j i e)))
    (λ e. omega arith)
one_more_call n carried Settle other = omega arith
one_more_call n carried (Close j) other = omega arith
one_more_call n carried (Finish j) other =
    after_gate (λ g. calls_made n carried g ≡ n + 6 + sum carried.counts + 2 * j + 1) n carried j
    (λ e. omega (arith, e, all_where n carried (carried_where carried (omega (arith, e)))))
    (λ e. omega arith)

-- by its kind
pub one_more_write : (n : ℕ) (carried : Carried) (next : Next) → next ≢ Idle
    → writes_made n carried (following n carried next)
    ≡ (if is_sync next then writes_made n carried next else writes_made n carried next + 1)
one_more_write n carried Idle other = absurd (other refl)
one_more_write n carried Descriptor other = omega arith
one_more_write n carried (Image i) other =
    after_image (λ g. writes_made n carried g ≡ 1 + i + 1) n carried i (λ e. omega (arith, e)) (λ e. omega arith)
one_more_write n carried Seal other = refl
one_more_write n carried OpenGate other = omega arith
one_more_write n carried Commit other =
    after_commit (λ g. writes_made n carried g ≡ n + 2) n carried
    (λ e. omega (arith, e, no_sum carried.counts e, closings_none carried e)) (λ e. omega arith)
one_more_write n carried (Home j i) other =
    after_home (λ g. writes_made n carried g ≡ n + 2 + sum (take j carried.counts) + i + 1) n carried j i
    (λ e d. omega (arith, e, sum_whole carried.counts j d))
    (λ e d. omega (arith, e, sum_more carried.counts j (within_sizes carried.counts j i e)))
    (λ e. omega arith)
one_more_write n carried Settle other = omega arith
one_more_write n carried (Close j) other = omega arith
one_more_write n carried (Finish j) other =
    after_gate (λ g. writes_made n carried g ≡ n + 3 + sum carried.counts + j) n carried j (λ e. omega (arith, e)) (λ e. omega arith)

pub one_more_sync : (n : ℕ) (carried : Carried) (next : Next) → next ≢ Idle
    → syncs_made carried (following n carried next) ≡ (if is_sync next then syncs_made carried next + 1 else syncs_made carried next)
one_more_sync n carried Idle other = absurd (other refl)
one_more_sync n carried Descriptor other = refl
one_more_sync n carried (Image i) other = after_image (λ g. syncs_made carried g ≡ 0) n carried i (λ e. refl) (λ e. refl)
one_more_sync n carried Seal other = refl
one_more_sync n carried OpenGate other = refl
one_more_sync n carried Commit other = after_commit (λ g. syncs_made carried g ≡ 2) n carried (λ e. syncs_none carried e) (λ e. refl)
one_more_sync n carried (Home j i) other = after_home (λ g. syncs_made carried g ≡ 2) n carried j i (λ e d. refl) (λ e d. refl) (λ e. refl)
one_more_sync n carried Settle other = refl
one_more_sync n carried (Close j) other = refl
one_more_sync n carried (Finish j) other =
    after_gate (λ g. syncs_made carried g ≡ 3 + j + 1) n carried j
    (λ e. omega (arith, e, syncs_where carried (carried_where carried (omega (arith, e)))))
    (λ e. omega arith)

-- no more calls than there are
sum_front : (sizes : List ℕ) (j i : ℕ) → j < length sizes → i < get_or sizes j 0 → sum (take j sizes) + i ≤ sum sizes
sum_front sizes j i within low = omega (arith, low, sum_more sizes j within, sum_by-take-le (λ x. x) sizes (j + 1))

four_at_least : (n : ℕ) (carried : Carried) → n + 4 ≤ all_calls n carried
four_at_least n carried = cond_both (eqb (length carried.counts) 0) (n + 4) (n + 5 + sum carried.counts + 2 * closings carried)
    (λ k. n + 4 ≤ k) (λ e. omega arith)
    (λ e. omega arith)

pub calls_bounded : (n : ℕ) (carried : Carried) (next : Next) → IsWithin n carried next → calls_made n carried next ≤ all_calls n carried
calls_bounded n carried Idle within = omega arith
calls_bounded n carried Descriptor within = omega arith
calls_bounded n carried (Image i) within = omega (arith, within, four_at_least n carried)
calls_bounded n carried Seal within = omega (arith, four_at_least n carried)
calls_bounded n carried OpenGate within = omega (arith, four_at_least n carried)
calls_bounded n carried Commit within = omega (arith, four_at_least n carried)
calls_bounded n carried (Home j i) within = omega
    (arith, sum_front carried.counts j i within.0 within.1, all_where n carried (omega (arith, within.0)))
calls_bounded n carried Settle within = omega (arith, all_where n carried within)
calls_bounded n carried (Close j) within = omega (arith, within, all_where n carried (carried_where carried (omega (arith, within))))
calls_bounded n carried (Finish j) within = omega (arith, within, all_where n carried (carried_where carried (omega (arith, within))))
