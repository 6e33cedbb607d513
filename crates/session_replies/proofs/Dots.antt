-- A text is stuffed from one dot that begins a line to the next.
use Rattle.std.proofs.Common.{◌≡◌, ℕ, zero, suc, ◌+◌, ◌-◌, ◌<◌, ◌≤◌, [], ◌∷◌, ◌++◌, length, get_or, take, drop, refl, sym, ◌∙◌, ap, arith}
use Rattle.std.proofs.Common.{Bool, true, false, cond, below_more, length-drop}
use Rattle.std.specs.Prelude.{◌&&◌, ◌==◌}
use Rattle.std.proofs.lemmas.Bool.{eqb-true, false_from_ne_true}
use Rattle.std.proofs.lemmas.List.{get_or-drop}
use Rattle.memchr.specs.Find.{NoneBefore, Nowhere, Passes, is_byte}
use Rattle.model.specs.Stream.{Octets}
use Rattle.session_replies.specs.Stuffing.{IsFirstDoubled, after, inside, step, stuffed_from}
use Rattle.session_replies.specs.declared.stuffing.Stuffing.{Stuffing}

-- whether the octet at a place is a dot that begins a line
abbrev pub is_doubled : Stuffing → Octets → ℕ → Bool
is_doubled s xs k = (after s (take k xs)).fresh && (get_or xs k 0 == 46)

-- none of the first octets is doubled
pub record NoneDoubled (s : Stuffing) (xs : Octets) (n : ℕ) : Type 0 where
  pub each : (k : ℕ) → k < n → is_doubled s xs k ≡ false

and_false : (b : Bool) → (b && false) ≡ false
and_false true = refl
and_false false = refl

later : (s : Stuffing) (x : ℕ) (xs : Octets) (n : ℕ) → NoneDoubled s (x ∷ xs) (suc n) → NoneDoubled (step s x) xs n
later s x xs n none = record { each = λ k below. none.each (suc k) (omega arith) }

after_dot : (s : Stuffing) → step s 46 ≡ inside
after_dot s = λ i. record { fresh = and_false s.after_cr i; after_cr = false }

-- ---- what is sent

pub plain_sent : (s : Stuffing) (xs : Octets) → NoneDoubled s xs (length xs) → stuffed_from s xs ≡ xs
plain_sent s [] none = refl
plain_sent s (x ∷ xs) none =
    (λ i. cond (none.each 0 (omega arith) i) (46 ∷ x ∷ []) (x ∷ []) ++ plain_sent (step s x) xs (later s x xs _ none) i)

dot_sent : (s : Stuffing) (xs : Octets) (at : ℕ) → at < length xs → (get_or xs at 0 == 46) ≡ true
    → (after s (take at xs)).fresh ≡ true → NoneDoubled s xs at
    → stuffed_from s xs ≡ take (suc at) xs ++ (46 ∷ stuffed_from inside (drop (suc at) xs))
dot_sent s [] at low is fresh none = absurd (omega arith)
dot_sent s (x ∷ xs) zero low is fresh none =
    let dot : x ≡ 46 = eqb-true x 46 is in
    (λ i. cond (fresh i && is i) (46 ∷ x ∷ []) (x ∷ []) ++ stuffed_from (step s x) xs)
    ∙ (λ i. 46 ∷ dot i ∷ stuffed_from (step s (dot i)) xs)
    ∙ (λ i. sym dot i ∷ 46 ∷ stuffed_from (after_dot s i) xs)
dot_sent s (x ∷ xs) (suc at) low is fresh none =
    (λ i. cond (none.each 0 (omega arith) i) (46 ∷ x ∷ []) (x ∷ [])
    ++ dot_sent (step s x) xs at (omega arith) is fresh (later s x xs at none) i)

dot_state : (s : Stuffing) (xs : Octets) (at : ℕ) → at < length xs → (get_or xs at 0 == 46) ≡ true
    → after s xs ≡ after inside (drop (suc at) xs)
dot_state s [] at low is = absurd (omega arith)
dot_state s (x ∷ xs) zero low is =
    ap (λ (o : ℕ). after (step s o) xs) (eqb-true x 46 is) ∙ ap (λ (t : Stuffing). after t xs) (after_dot s)
dot_state s (x ∷ xs) (suc at) low is = dot_state (step s x) xs at (omega arith) is

pub first_doubled : (s : Stuffing) (xs : Octets) (at : ℕ) → at < length xs → (get_or xs at 0 == 46) ≡ true
    → (after s (take at xs)).fresh ≡ true → NoneDoubled s xs at → IsFirstDoubled s xs at
first_doubled s xs at low is fresh none =
    let next : suc at ≡ at + 1 = omega arith in
    record {
      within = low;
      sent = dot_sent s xs at low is fresh none ∙ (λ i. take (next i) xs ++ (46 ∷ stuffed_from inside (drop (next i) xs)));
      state = dot_state s xs at low is ∙ (λ i. after inside (drop (next i) xs));
    }

-- ---- the search

-- an octet that the search did not find
missed : (octet : ℕ) (xs part : Octets) (at n k : ℕ) → part ≡ drop at xs → Nowhere (Passes (is_byte octet) part) 0 n → k < n
    → (get_or xs (at + k) 0 == octet) ≡ false
missed octet xs part at n k is none below =
    ap (λ (o : ℕ). o == octet) (sym (get_or-drop at xs k 0) ∙ ap (λ (os : Octets). get_or os k 0) (sym is))
    ∙ false_from_ne_true _ (none k (omega arith) below)

-- no octet up to the next dot is doubled
pub until_dot : (s : Stuffing) (xs part : Octets) (at n m : ℕ) → part ≡ drop at xs → NoneDoubled s xs at
    → Nowhere (Passes (is_byte 46) part) 0 n → at + n ≡ m → NoneDoubled s xs m
until_dot s xs part at zero m is none nowhere e = record { each = λ k below. none.each k (omega arith) }
until_dot s xs part at (suc n) m is none nowhere e =
    let so_far = until_dot s xs part at n (at + n) is none (λ k low below. nowhere k low (omega arith)) refl in
    let here : is_doubled s xs (at + n) ≡ false =
    ap (λ (b : Bool). (after s (take (at + n) xs)).fresh && b) (missed 46 xs part at (suc n) n is nowhere (omega arith))
    ∙ and_false (after s (take (at + n) xs)).fresh in
    record { each = λ k below. below_more (λ (k : ℕ). is_doubled s xs k ≡ false) (at + n) so_far.each here k (omega arith) }

-- no line begins after an octet that isn't LF
goes_on : (s : Stuffing) (xs : Octets) (k : ℕ) → k < length xs → (get_or xs k 0 == 10) ≡ false
    → (after s (take (suc k) xs)).fresh ≡ false
goes_on s [] k low is = absurd (omega arith)
goes_on s (x ∷ xs) zero low is = ap (λ (b : Bool). s.after_cr && b) is ∙ and_false s.after_cr
goes_on s (x ∷ xs) (suc k) low is = goes_on (step s x) xs k (omega arith) is

-- no octet from one inside a line up to the next LF is doubled
pub until_line : (s : Stuffing) (xs part : Octets) (at n m : ℕ) → part ≡ drop at xs → NoneDoubled s xs at
    → (after s (take at xs)).fresh ≡ false → Nowhere (Passes (is_byte 10) part) 0 n → at + n ≤ length xs → at + n + 1 ≡ m
    → NoneDoubled s xs m
until_line s xs part at zero m is none going nowhere high e =
    let here : is_doubled s xs at ≡ false = ap (λ (b : Bool). b && (get_or xs at 0 == 46)) going in
    record { each = λ k below. below_more (λ (k : ℕ). is_doubled s xs k ≡ false) at none.each here k (omega arith) }
until_line s xs part at (suc n) m is none going nowhere high e =
    let before = λ (k : ℕ) (low : 0 ≤ k) (below : k < n). nowhere k low (omega arith) in
    let so_far = until_line s xs part at n (suc (at + n)) is none going before (omega arith) (omega arith) in
    let here : is_doubled s xs (suc (at + n)) ≡ false =
    ap (λ (b : Bool). b && (get_or xs (suc (at + n)) 0 == 46))
    (goes_on s xs (at + n) (omega arith) (missed 10 xs part at (suc n) n is nowhere (omega arith))) in
    record { each = λ k below. below_more (λ (k : ℕ). is_doubled s xs k ≡ false) (suc (at + n)) so_far.each here k (omega arith) }

-- the part from a place on has a dot, and none before it
module _ (s t : Stuffing) (xs part front : Octets) (at ahead : ℕ) (part_is : part ≡ drop at xs) (front_is : front ≡ take (at + ahead) xs)
    (none : NoneDoubled s xs at) (first : NoneBefore (Passes (is_byte 46) part) 0 (length part) ahead) (before : t ≡ after s front) where
  pub dot_within : at + ahead < length xs
  dot_within = let size : length part ≡ length (drop at xs) = ap length part_is in omega (arith, first.high, length-drop at xs)

  no_more : NoneDoubled s xs (at + ahead)
  no_more = until_dot s xs part at ahead (at + ahead) part_is none first.before refl

  begins : (b : Bool) → t.fresh ≡ b → (after s (take (at + ahead) xs)).fresh ≡ b
  begins b is = (λ i. (after s (sym front_is i)).fresh) ∙ ap (λ (u : Stuffing). u.fresh) (sym before) ∙ is

  pub dot_here : Passes (is_byte 46) part ahead → t.fresh ≡ true → IsFirstDoubled s xs (at + ahead)
  dot_here found is =
      let dot : (get_or xs (at + ahead) 0 == 46) ≡ true =
      ap (λ (o : ℕ). o == 46) (sym (get_or-drop at xs ahead 0) ∙ ap (λ (os : Octets). get_or os ahead 0) (sym part_is)) ∙ found in
      first_doubled s xs (at + ahead) dot_within dot (begins true is) no_more

  pub past_line : (rest : Octets) (ending : ℕ) → rest ≡ drop (at + ahead) xs → t.fresh ≡ false → Nowhere (Passes (is_byte 10) rest) 0 ending
      → at + ahead + ending ≤ length xs → NoneDoubled s xs (at + ahead + ending + 1)
  past_line rest ending rest_is is nowhere high =
      until_line s xs rest (at + ahead) ending (at + ahead + ending + 1) rest_is no_more (begins false is) nowhere high refl

  pub last_line : (rest : Octets) → rest ≡ drop (at + ahead) xs → t.fresh ≡ false → Nowhere (Passes (is_byte 10) rest) 0 (length rest)
      → stuffed_from s xs ≡ xs
  last_line rest rest_is is nowhere =
      let size : length rest ≡ length xs - (at + ahead) = ap length rest_is ∙ length-drop (at + ahead) xs in
      let low = dot_within in
      let all = past_line rest (length rest) rest_is is nowhere (omega arith) in
      plain_sent s xs (record { each = λ k below. all.each k (omega arith) })

-- no dot is left
pub last_dot : (s : Stuffing) (xs part : Octets) (at : ℕ) → part ≡ drop at xs → NoneDoubled s xs at
    → Nowhere (Passes (is_byte 46) part) 0 (length part) → stuffed_from s xs ≡ xs
last_dot s xs part at part_is none nowhere =
    let size : length part ≡ length xs - at = ap length part_is ∙ length-drop at xs in
    let all = until_dot s xs part at (length part) (at + length part) part_is none nowhere refl in
    plain_sent s xs (record { each = λ k below. all.each k (omega arith) })

-- ---- the last two octets decide the state

pub past_two : (s : Stuffing) (xs : Octets) (i j : ℕ) → i + 2 ≡ length xs → j + 1 ≡ length xs
    → step (step s (get_or xs i 0)) (get_or xs j 0) ≡ after s xs
past_two s [] i j two one = absurd (omega arith)
past_two s (x ∷ []) i j two one = absurd (omega arith)
past_two s (x ∷ y ∷ []) i j two one =
    let first : i ≡ 0 = omega arith in
    let last : j ≡ 1 = omega arith in
    (λ k. step (step s (get_or (x ∷ y ∷ []) (first k) 0)) (get_or (x ∷ y ∷ []) (last k) 0))
past_two s (x ∷ y ∷ z ∷ rest) i j two one =
    let first : i ≡ suc (length rest) = omega arith in
    let last : j ≡ suc (suc (length rest)) = omega arith in
    (λ k. step (step s (get_or (x ∷ y ∷ z ∷ rest) (first k) 0)) (get_or (x ∷ y ∷ z ∷ rest) (last k) 0))
    ∙ past_two (step s x) (y ∷ z ∷ rest) (length rest) (suc (length rest)) (omega arith) (omega arith)
