-- What the two words hold at each moment, and what each step answers.
use Rattle.std.specs.Prelude.{◌≡◌, ◌≤◌, ◌⊎◌, ℕ, ◌==◌, max, Bool, true, false, if◌then◌else◌, List, [], ◌∷◌, ◌++◌, Contains}
use mathlib.Core.Option.{some}
use lib.ListN.{get_elem?}
use Rattle.server_mark.specs.declared.steps.View.{View}
use Rattle.server_mark.specs.declared.steps.View.TheVariants.{Caller, Flusher}

-- the greatest of these numbers, or 0 if there is none
abbrev pub greatest : List ℕ → ℕ
greatest [] = 0
greatest (n ∷ ns) = max n (greatest ns)

-- 0, or a number that was raised
abbrev pub WasRaised : List ℕ → ℕ → Type 0
WasRaised raised n = (n ≡ 0) ⊎ Contains raised n

-- the second word
abbrev pub stop_word : Bool → ℕ
stop_word stopped = if stopped then 1 else 0

-- the flusher's seat before its first step
abbrev pub at_first : View
at_first = Flusher [] false 0

-- the first caller's seat before its first step
abbrev pub caller_at_first : View
caller_at_first = Caller 0 false false

-- a caller has seen 0 or a number that was raised, not above the greatest, and it has seen the stop only after the
-- flusher stopped; there is one flusher's seat, it has done all that was done, and the seats that it took back had seen no other number
abbrev pub Fits : ℕ → List ℕ → Bool → ℕ → View → Type 0
Fits port raised stopped seat (Caller seen told after_stop) =
    (seen ≤ greatest raised) × WasRaised raised seen × (told ≡ true → stopped ≡ true)
Fits port raised stopped seat (Flusher its has known) = (seat ≡ port) × (its ≡ raised) × (has ≡ stopped) × WasRaised raised known

-- The rule: the first word is the greatest number that the flusher's seat raised, or 0 if it raised none; the second is
-- 1 exactly if it has stopped
pub record IsKept (words : List ℕ) (views : List View) : Type 0 where
  pub port : ℕ
  pub raised : List ℕ
  pub stopped : Bool
  pub known : ℕ
  pub there : get_elem? views port ≡ some (Flusher raised stopped known)
  pub words_are : words ≡ greatest raised ∷ stop_word stopped ∷ []
  pub fits : (seat : ℕ) (view : View) → get_elem? views seat ≡ some view → Fits port raised stopped seat view

-- ---- views

abbrev pub is_caller : View → Bool
is_caller (Caller seen told after_stop) = true
is_caller (Flusher raised stopped known) = false

abbrev pub is_flusher : View → Bool
is_flusher (Caller seen told after_stop) = false
is_flusher (Flusher raised stopped known) = true

abbrev pub seen_of : View → ℕ
seen_of (Caller seen told after_stop) = seen
seen_of (Flusher raised stopped known) = 0

abbrev pub told_of : View → Bool
told_of (Caller seen told after_stop) = told
told_of (Flusher raised stopped known) = false

abbrev pub after_stop_of : View → Bool
after_stop_of (Caller seen told after_stop) = after_stop
after_stop_of (Flusher raised stopped known) = false

abbrev pub raised_of : View → List ℕ
raised_of (Caller seen told after_stop) = []
raised_of (Flusher raised stopped known) = raised

abbrev pub stopped_of : View → Bool
stopped_of (Caller seen told after_stop) = false
stopped_of (Flusher raised stopped known) = stopped

-- the number that a seat had seen which the flusher's seat took back last, 0 before
abbrev pub known_of : View → ℕ
known_of (Caller seen told after_stop) = 0
known_of (Flusher raised stopped known) = known

-- the flusher's seat after it took back a caller's
abbrev pub with_taken : View → View → View
with_taken flusher caller = Flusher (raised_of flusher) (stopped_of flusher) (seen_of caller)

-- ---- the steps, by the view before, the word found, the view after, and the slots before and after, of which there are none

abbrev pub looks : {S : Type 0} → View → ℕ → View → S → S → Type 0
looks before found after slots_before slots_after = (after ≡ Caller found (told_of before) (told_of before)) × (seen_of before ≤ found)
    × (slots_after ≡ slots_before)

abbrev pub sees : {S : Type 0} → View → ℕ → View → S → S → Type 0
sees before found after slots_before slots_after =
    (after ≡ Caller (seen_of before) (found == 1) (after_stop_of before)) × (told_of before ≡ true → (found == 1) ≡ true)
    × (slots_after ≡ slots_before)

abbrev pub raises : {S : Type 0} → View → ℕ → View → S → S → Type 0
raises before n after slots_before slots_after =
    (after ≡ Flusher (raised_of before ++ n ∷ []) (stopped_of before) (known_of before)) × (slots_after ≡ slots_before)

abbrev pub stops : {S : Type 0} → View → View → S → S → Type 0
stops before after slots_before slots_after = (after ≡ Flusher (raised_of before) true (known_of before)) × (slots_after ≡ slots_before)

-- the flusher's seat says of the number that it knows whence it is
abbrev pub tells : {S : Type 0} → View → View → S → S → Type 0
tells before after slots_before slots_after =
    (after ≡ before) × WasRaised (raised_of before) (known_of before) × (slots_after ≡ slots_before)
