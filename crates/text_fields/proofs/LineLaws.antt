-- A line ends at the first CRLF.
use Rattle.std.specs.Prelude.{◌≡◌, ◌≢◌, ℕ, zero, suc, ◌+◌, ◌-◌, ◌<◌, ◌≤◌, Bool, true, false, nat_eq, List}
use Rattle.std.specs.Prelude.{[], ◌∷◌, length, take, drop, get_or, bytes_eq}
use Rattle.std.specs.List.{ends_with, list_all}
use Rattle.std.proofs.Common.{sym, ◌∙◌, ap, refl, arith, inl, inr}
use Rattle.std.proofs.Math.Seq.{drop-cons}
use Rattle.std.proofs.lemmas.List.{drop_all, get_or-drop, get_or-take, length-drop, length-take-le}
use Rattle.std.proofs.lemmas.List.{take_all}
use Rattle.std.proofs.lemmas.Bool.{cases_lt, eqb-true, and_from}
use Rattle.memchr.specs.Find.{OccursAt, Nowhere, NoneBefore, Passes, is_byte}
use Rattle.model.specs.Stream.{crlf, EndsAt, NeverEnds}
use Rattle.model.specs.declared.message.Mode.TheVariants as mode
use Rattle.model.proofs.Ends.{ends_with-get, ends_with-length}

-- where a prefix ends in CRLF, CRLF occurs
pub occurs : (text : List ℕ) (k : ℕ) → k ≤ length text → ends_with nat_eq (take k text) crlf ≡ true → OccursAt text crlf (k - 2)
occurs text k within ends =
    let size = length-take-le k text within in
    let long = ends_with-length (take k text) crlf ends in
    record {
      fits = omega (arith, size, long);
      reads = λ j below. let at : k - 2 + j ≡ length (take k text) - 2 + j = omega (arith, size) in
          sym (get_or-take k text (k - 2 + j) 0 (omega (arith, size, long))) ∙ ap (λ i. get_or (take k text) i 0) at
          ∙ ends_with-get (take k text) crlf ends j below;
    }

pub too_early : (text : List ℕ) (k : ℕ) → k ≤ length text → ends_with nat_eq (take k text) crlf ≡ true → 2 ≤ k
too_early text k within ends = omega (arith, length-take-le k text within, ends_with-length (take k text) crlf ends)

-- a prefix that stops before the end of the first CRLF doesn't end in CRLF
none_ends : (text : List ℕ) (at k : ℕ) → Nowhere (OccursAt text crlf) 0 at → k ≤ length text → k < at + 2
    → ends_with nat_eq (take k text) crlf ≡ false
none_ends text at k none within below = by_test (ends_with nat_eq (take k text) crlf) refl where
  by_test : (b : Bool) → ends_with nat_eq (take k text) crlf ≡ b → b ≡ false
  by_test false is = refl
  by_test true is = absurd (none (k - 2) (omega arith) (omega (arith, too_early text k within is)) (occurs text k within is))

-- the last two octets of a text
last_two : (text : List ℕ) (at : ℕ) → at + 2 ≡ length text → get_or text (at + 0) 0 ≡ 13 → get_or text (at + 1) 0 ≡ 10
    → drop at text ≡ 13 ∷ 10 ∷ []
last_two text at size one two =
    let next : suc at ≡ at + 1 = omega arith in
    let first : at ≡ at + 0 = omega arith in
    drop-cons text at 0 (omega arith) ∙ ap (λ rest. get_or text at 0 ∷ rest) (drop-cons text (suc at) 0 (omega arith))
    ∙ ap (λ rest. get_or text at 0 ∷ get_or text (suc at) 0 ∷ rest) (drop_all (suc (suc at)) text (omega arith))
    ∙ ap (λ x. x ∷ get_or text (suc at) 0 ∷ []) (ap (λ i. get_or text i 0) first ∙ one)
    ∙ ap (λ x. 13 ∷ x ∷ []) (ap (λ i. get_or text i 0) next ∙ two)

pub ends_there : (text : List ℕ) (at : ℕ) → OccursAt text crlf at → ends_with nat_eq (take (at + 2) text) crlf ≡ true
ends_there text at occurs =
    let size = length-take-le (at + 2) text occurs.fits in
    let cut : length (take (at + 2) text) - 2 ≡ at = omega (arith, size) in
    let tail = last_two (take (at + 2) text) at (sym size)
    (get_or-take (at + 2) text (at + 0) 0 (omega arith) ∙ occurs.reads 0 (omega arith))
    (get_or-take (at + 2) text (at + 1) 0 (omega arith) ∙ occurs.reads 1 (omega arith)) in
    ap (λ n. bytes_eq crlf (drop n (take (at + 2) text))) cut ∙ ap (bytes_eq crlf) tail

-- the first CRLF ends the first line
pub EndsAt-found : (text : List ℕ) (at : ℕ) → NoneBefore (OccursAt text crlf) 0 (length text + 1) at → OccursAt text crlf at
    → EndsAt mode.Line text (at + 2)
EndsAt-found text at first found = record {
  within = found.fits;
  ends = ends_there text at found;
  first = λ k below. none_ends text at k first.before (omega (arith, found.fits)) below;
}

-- without one no line ends
pub NeverEnds-none : (text : List ℕ) → Nowhere (OccursAt text crlf) 0 (length text + 1) → NeverEnds mode.Line text
NeverEnds-none text none k within = none_ends text (length text + 1) k none within (omega arith)

-- where each octet passes, all do
pub each_passes : (p : ℕ → Bool) (xs : List ℕ) → ((k : ℕ) → k < length xs → p (get_or xs k 0) ≡ true) → list_all p xs ≡ true
each_passes p [] each = refl
each_passes p (x ∷ xs) each = and_from (p x) (list_all p xs) (each 0 (omega arith))
    (each_passes p xs (λ k below. each (suc k) (omega arith)))

-- ---- the first CRLF of a text, by LF

-- no CRLF ends before this place
abbrev pub NoneEndsBefore : List ℕ → ℕ → Type 0
NoneEndsBefore text from = (from ≤ length text) × ((k : ℕ) → k + 1 < from → ¬ (OccursAt text crlf k))

-- CRLF ends with LF
lf_there : (text : List ℕ) (from k : ℕ) → from ≤ k + 1 → OccursAt text crlf k → Passes (is_byte 10) (drop from text) (k + 1 - from)
lf_there text from k low there =
    let at : from + (k + 1 - from) ≡ k + 1 = omega (arith, low) in
    ap (is_byte 10) (get_or-drop from text (k + 1 - from) 0 ∙ ap (λ i. get_or text i 0) at ∙ there.reads 1 (omega arith))

-- up to the next LF no CRLF ends
none_to_next : (text : List ℕ) (from place : ℕ) → NoneEndsBefore text from → Nowhere (Passes (is_byte 10) (drop from text)) 0 place
    → (k : ℕ) → k + 1 < from + place → ¬ (OccursAt text crlf k)
none_to_next text from place none free k before there = elim (cases_lt (k + 1) from) [
  | inl less ↦ none.1 k less there
  | inr later ↦ free (k + 1 - from) (omega arith) (omega (arith, later, before)) (lf_there text from k later there)
]

-- without a LF there is no CRLF
pub crlf_nowhere : (text : List ℕ) (from : ℕ) → NoneEndsBefore text from
    → Nowhere (Passes (is_byte 10) (drop from text)) 0 (length (drop from text)) → Nowhere (OccursAt text crlf) 0 (length text + 1)
crlf_nowhere text from none free k low below there =
    let long = length-drop from text in
    none_to_next text from (length (drop from text)) none free k (omega (arith, there.fits, long, none.0)) there

-- a CR before the LF makes the first CRLF
pub crlf_found : (text : List ℕ) (from place : ℕ) → NoneEndsBefore text from
    → NoneBefore (Passes (is_byte 10) (drop from text)) 0 (length (drop from text)) place → Passes (is_byte 10) (drop from text) place
    → 0 < from + place → get_or text (from + place - 1) 0 ≡ 13
    → NoneBefore (OccursAt text crlf) 0 (length text + 1) (from + place - 1) × OccursAt text crlf (from + place - 1)
crlf_found text from place none found lf some cr = (
  record {
    low = omega arith;
    high = let long = length-drop from text in omega (arith, found.high, long);
    before = λ k low below there. none_to_next text from place none found.before k (omega (arith, below, some)) there;
  },
  record { fits = let long = length-drop from text in omega (arith, found.high, long, some); reads = reads },
) where
  reads : (j : ℕ) → j < 2 → get_or text (from + place - 1 + j) 0 ≡ get_or crlf j 0
  reads zero below = let at : from + place - 1 + 0 ≡ from + place - 1 = omega arith in ap (λ i. get_or text i 0) at ∙ cr
  reads (suc zero) below =
      let at : from + place - 1 + 1 ≡ from + place = omega (arith, some) in
      ap (λ i. get_or text i 0) at ∙ sym (get_or-drop from text place 0) ∙ eqb-true _ _ lf
  reads (suc (suc j)) below = absurd (omega (arith, below))

-- and without one the search goes on after the LF
pub crlf_after : (text : List ℕ) (from place : ℕ) → NoneEndsBefore text from
    → NoneBefore (Passes (is_byte 10) (drop from text)) 0 (length (drop from text)) place
    → (0 < from + place → get_or text (from + place - 1) 0 ≢ 13) → NoneEndsBefore text (from + place + 1)
crlf_after text from place none found other = (let long = length-drop from text in omega (arith, found.high, long), before) where
  before : (k : ℕ) → k + 1 < from + place + 1 → ¬ (OccursAt text crlf k)
  before k low there = elim (cases_lt (k + 1) (from + place)) [
    | inl less ↦ none_to_next text from place none found.before k less there
    | inr last ↦
        let at : from + place - 1 ≡ k + 0 = omega (arith, low, last) in
        other (omega (arith, last)) (ap (λ i. get_or text i 0) at ∙ there.reads 0 (omega arith))
  ]

-- what is left of a text after a place
pub slice_left : (text : List ℕ) (from : ℕ) → take (length text - from) (drop from text) ≡ drop from text
slice_left text from = take_all (length text - from) (drop from text) (omega (arith, length-drop from text))
