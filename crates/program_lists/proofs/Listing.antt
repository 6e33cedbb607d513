-- Lines of a list, read from the front.
use Rattle.std.proofs.Common.{◌≡◌, ℕ, zero, suc, ◌+◌, ◌-◌, ◌<◌, ◌==◌, not, Bool, List, [], ◌∷◌, ◌++◌, take, drop, length, map, get_or}
use Rattle.std.proofs.Common.{refl, sym, ◌∙◌, ap, arith, length-drop, Bor}
use Rattle.std.specs.Prelude.{Option, Some, None, Result, slice_get, option_map, unwrap_or}
use Rattle.std.specs.List.{position}
use Rattle.std.proofs.lemmas.List.{append-nil, length-take-le, map-append, take_all}
use Rattle.std.proofs.lemmas.Option.{slice_get_within, slice_get-get_or, slice_get-map}
use Rattle.model.proofs.Joined.{front_more}
use Rattle.model.specs.Stream.{Octets}
use Rattle.model.specs.declared.change.NewGroup.{NewGroup}
use Rattle.program_lists.specs.Lists.{asked_of, first_about, first_of, listed_from, said, told_by, with_line, without_tabs}
use Rattle.program_lists.specs.declared.faults.ListFault.{ListFault}
use Rattle.program_lists.specs.declared.reading.Listed.{Listed}

-- ---- TABs

-- the text begins at this octet, the first one that is no TAB
pub from_no_tab : (text : Octets) (at : ℕ) → Some at ≡ position (λ x. not (x == 9)) text
    → take (length text - at) (drop at text) ≡ without_tabs text
from_no_tab text at found =
    take_all (length text - at) (drop at text) (omega (arith, length-drop at text))
    ∙ ap (λ (o : Option ℕ). unwrap_or (option_map (λ i. drop i text) o) []) found

pub only_tabs : (text : Octets) → None ≡ position (λ x. not (x == 9)) text → [] ≡ without_tabs text
only_tabs text none = ap (λ (o : Option ℕ). unwrap_or (option_map (λ i. drop i text) o) []) none

-- ---- the line at a place

abbrev pub texts : List (Bor (List ℕ)) → List Octets
texts lines = map (λ (line : Bor (List ℕ)). line.now) lines

at_place : (lines : List (Bor (List ℕ))) (place : ℕ) (other : Bor (List ℕ)) → place < length lines
    → slice_get (texts lines) place ≡ Some (get_or lines place other).now
at_place lines place other within =
    slice_get-map (λ (line : Bor (List ℕ)). line.now) lines place
    ∙ ap (option_map (λ (line : Bor (List ℕ)). line.now)) (slice_get-get_or lines place other within)

-- ---- the first description

drop_more : {A : Type 0} (xs : List A) (k : ℕ) (x : A) → slice_get xs k ≡ Some x → drop k xs ≡ x ∷ drop (k + 1) xs
drop_more [] k x is = absurd (cc is)
drop_more (y ∷ xs) zero x is = let same : y ≡ x = cc is in ap (λ z. z ∷ xs) same
drop_more (y ∷ xs) (suc k) x is = let e : suc k + 1 ≡ suc (k + 1) = omega arith in
    drop_more xs k x is ∙ ap (λ n. x ∷ drop n (y ∷ xs)) (sym e)

module _ (lines : List Octets) (name : Octets) (place : ℕ) (line : Octets) (at : slice_get lines place ≡ Some line)
    (so_far : first_about lines name ≡ first_about (drop place lines) name) where
  step : first_about lines name ≡ first_of (told_by name line) (first_about (drop (place + 1) lines) name)
  step = so_far ∙ ap (λ (ls : List Octets). first_about ls name) (drop_more lines place line at)

  -- the line at a place describes it, and none before it does
  pub found : (text : Octets) → told_by name line ≡ Some text → first_about lines name ≡ Some text
  found text is = step ∙ ap (λ (o : Option Octets). first_of o (first_about (drop (place + 1) lines) name)) is

  -- it doesn't
  pub passed : told_by name line ≡ None → first_about lines name ≡ first_about (drop (place + 1) lines) name
  passed is = step ∙ ap (λ (o : Option Octets). first_of o (first_about (drop (place + 1) lines) name)) is

module _ (lines : List (Bor (List ℕ))) (name : Octets) (place : ℕ) (other : Bor (List ℕ)) (within : place < length lines)
    (so_far : first_about (texts lines) name ≡ first_about (drop place (texts lines)) name) where
  pub found_at : (text : Octets) → told_by name (get_or lines place other).now ≡ Some text → first_about (texts lines) name ≡ Some text
  found_at = found (texts lines) name place (get_or lines place other).now (at_place lines place other within) so_far

  pub passed_at : told_by name (get_or lines place other).now ≡ None
      → first_about (texts lines) name ≡ first_about (drop (place + 1) (texts lines)) name
  passed_at = passed (texts lines) name place (get_or lines place other).now (at_place lines place other within) so_far

-- ---- what the lines ask for

abbrev Asked : Type 0
Asked = ℕ × Result NewGroup ListFault

line_behind : (number : ℕ) (asked : Option (Result NewGroup ListFault)) (later last : List Asked)
    → with_line number asked (later ++ last) ≡ with_line number asked later ++ last
line_behind number None later last = refl
line_behind number (Some asked) later last = refl

listed_last : (all : List Octets) (moment number : ℕ) (lines : List Octets) (line : Octets)
    → listed_from all moment number (lines ++ line ∷ [])
    ≡ listed_from all moment number lines ++ with_line (number + length lines) (asked_of all moment line) []
listed_last all moment number [] line =
    let e : number ≡ number + 0 = omega arith in ap (λ (n : ℕ). with_line n (asked_of all moment line) []) e
listed_last all moment number (first ∷ lines) line =
    let e : number + 1 + length lines ≡ number + suc (length lines) = omega arith in
    ap (with_line number (asked_of all moment first)) (listed_last all moment (number + 1) lines line
    ∙ ap (λ (n : ℕ). listed_from all moment (number + 1) lines ++ with_line n (asked_of all moment line) []) e)
    ∙ line_behind number (asked_of all moment first) (listed_from all moment (number + 1) lines)
    (with_line (number + suc (length lines)) (asked_of all moment line) [])

module _ (lines : List Octets) (moment place : ℕ) (line : Octets) (listed : List Listed) (at : slice_get lines place ≡ Some line)
    (so_far : map said listed ≡ listed_from lines moment 1 (take place lines)) where
  behind : listed_from lines moment 1 (take (place + 1) lines)
      ≡ listed_from lines moment 1 (take place lines) ++ with_line (place + 1) (asked_of lines moment line) []
  behind =
      let within : place < length lines = slice_get_within lines place line at in
      let e : 1 + length (take place lines) ≡ place + 1 = omega (arith, length-take-le place lines (omega (arith, within))) in
      ap (listed_from lines moment 1) (front_more lines place line at) ∙ listed_last lines moment 1 (take place lines) line
      ∙ ap (λ (n : ℕ). listed_from lines moment 1 (take place lines) ++ with_line n (asked_of lines moment line) []) e

  -- a line that asks for nothing
  pub one_passed : asked_of lines moment line ≡ None → map said listed ≡ listed_from lines moment 1 (take (place + 1) lines)
  one_passed none =
      so_far ∙ sym (append-nil (listed_from lines moment 1 (take place lines)))
      ∙ ap (λ (o : Option (Result NewGroup ListFault)). listed_from lines moment 1 (take place lines) ++ with_line (place + 1) o [])
      (sym none) ∙ sym behind

  -- a line that asks for something
  pub one_listed : (one : Listed) → one.line ≡ place + 1 → asked_of lines moment line ≡ Some (said one).1
      → map said (listed ++ one ∷ []) ≡ listed_from lines moment 1 (take (place + 1) lines)
  one_listed one number is =
      map-append said listed (one ∷ []) ∙ ap (λ (all : List Asked). all ++ said one ∷ []) so_far
      ∙ ap (λ (n : ℕ). listed_from lines moment 1 (take place lines) ++ (n, (said one).1) ∷ []) number
      ∙ ap (λ (o : Option (Result NewGroup ListFault)). listed_from lines moment 1 (take place lines) ++ with_line (place + 1) o [])
      (sym is)
      ∙ sym behind

module _ (lines : List (Bor (List ℕ))) (moment place : ℕ) (other : Bor (List ℕ)) (listed : List Listed) (within : place < length lines)
    (so_far : map said listed ≡ listed_from (texts lines) moment 1 (take place (texts lines))) where
  pub silent_at : asked_of (texts lines) moment (get_or lines place other).now ≡ None
      → map said listed ≡ listed_from (texts lines) moment 1 (take (place + 1) (texts lines))
  silent_at = one_passed (texts lines) moment place (get_or lines place other).now listed (at_place lines place other within) so_far

  pub listed_at : (one : Listed) → one.line ≡ place + 1
      → asked_of (texts lines) moment (get_or lines place other).now ≡ Some (said one).1
      → map said (listed ++ one ∷ []) ≡ listed_from (texts lines) moment 1 (take (place + 1) (texts lines))
  listed_at = one_listed (texts lines) moment place (get_or lines place other).now listed (at_place lines place other within) so_far
