-- A search for LF passes over prefixes that end no message.
use Rattle.std.specs.Prelude.{◌≡◌, ℕ, ◌+◌, ◌-◌, ◌<◌, ◌≤◌, true, false, List, length, take, drop, get_or}
use Rattle.std.proofs.Common.{◌∙◌, ap, inl, inr, arith}
use Rattle.std.proofs.lemmas.List.{take_rest, get_or-drop}
use Rattle.std.proofs.lemmas.Bool.{cases_lt, eq-eqb}
use Rattle.memchr.specs.Find.{Passes, is_byte}
use Rattle.model.specs.Stream.{ends_message}
use Rattle.model.specs.declared.message.Mode.{Mode}
use Rattle.model.proofs.Ends.{ends_message-take}
use Rattle.text_framing.specs.Held.{NoneEnds, EndsFirst}

-- the octets from `at` on, as a slice has them
abbrev pub from_place : ℕ → List ℕ → List ℕ
from_place at stream = take (length stream - at) (drop at stream)

module _ (m : Mode) (stream : List ℕ) (searched at : ℕ) (within : at ≤ length stream) (before : NoneEnds m stream searched at) where
  -- no LF stands at the next `step` places
  pub NoneEnds-skip : (step : ℕ) → at + step ≤ length stream → ((k : ℕ) → 0 ≤ k → k < step → ¬ Passes (is_byte 10) (from_place at stream) k)
      → NoneEnds m stream searched (at + step)
  NoneEnds-skip step fits no_lf n low high =
      elim (cases_lt at n) [
        | inr near ↦ before n low near
        | inl far ↦ skipped (n - 1 - at) (omega arith) (omega arith)
      ]
    where
      skipped : (k : ℕ) → n ≡ at + k + 1 → k < step → ends_message m (take n stream) ≡ false
      skipped k same below =
          ap (λ i. ends_message m (take i stream)) same
          ∙ ends_message-take m stream (at + k) (omega arith)
          (λ lf. no_lf k (omega arith) below (eq-eqb (get_or (from_place at stream) k 0) 10
          (ap (λ l. get_or l k 0) (take_rest stream at) ∙ get_or-drop at stream k 0 ∙ lf)))

  -- no message ends at the LF after these places
  pub NoneEnds-lf : (step : ℕ) → at + (step + 1) ≤ length stream
      → ((k : ℕ) → 0 ≤ k → k < step → ¬ Passes (is_byte 10) (from_place at stream) k)
      → ends_message m (take (at + (step + 1)) stream) ≡ false → NoneEnds m stream searched (at + (step + 1))
  NoneEnds-lf step fits no_lf lf n low high =
      elim (cases_lt (at + step) n) [
        | inr near ↦ NoneEnds-skip step (omega arith) no_lf n low near
        | inl far ↦ let same : n ≡ at + (step + 1) = omega arith in ap (λ i. ends_message m (take i stream)) same ∙ lf
      ]

  -- a message ends at the LF after these places
  pub EndsFirst-lf : (step : ℕ) → searched ≤ at → at + (step + 1) ≤ length stream
      → ((k : ℕ) → 0 ≤ k → k < step → ¬ Passes (is_byte 10) (from_place at stream) k)
      → ends_message m (take (at + (step + 1)) stream) ≡ true → EndsFirst m stream searched (at + (step + 1))
  EndsFirst-lf step low fits no_lf ends = record {
    after = omega arith;
    within = fits;
    ends = ends;
    first = λ k some below. NoneEnds-skip step (omega arith) no_lf k some (omega arith);
  }
