-- The rules of lines, read from the front.
use Rattle.std.proofs.Common.{◌≡◌, ℕ, ◌+◌, ◌-◌, ◌<◌, Bool, true, false, List, [], ◌∷◌, ◌++◌, get_or, length, take, sym, ◌∙◌, ap, refl}
use Rattle.std.proofs.Common.{arith, subst, Bor}
use Rattle.std.specs.Prelude.{Option, Some, None, slice_get, option_map, option_and_then, if◌then◌else◌, is_some, map}
use Rattle.std.proofs.lemmas.List.{map-append}
use Rattle.std.proofs.lemmas.Option.{slice_get-get_or, slice_get-map}
use Rattle.model.proofs.Joined.{front_more}
use Rattle.model.specs.Stream.{Octets}
use Rattle.program_rules.specs.Rules.{IsFirstBad, is_skipped, rule_of, rules_of, said}
use Rattle.program_rules.specs.declared.reading.Rule.{Rule}
use Rattle.program_rules.specs.declared.reading.RulesError.TheVariants.{Bad}

abbrev Said : Type 0
Said = Octets × Option ℕ

-- what a line has, and then those behind it
abbrev step : Bool → Option Said → Option (List Said) → Option (List Said)
step skipped rule later = if skipped then later else option_and_then (λ r. option_map (λ rs. r ∷ rs) later) rule

-- a list with one more at its end
abbrev behind : Said → Option (List Said) → Option (List Said)
behind last rules = option_map (λ rs. rs ++ last ∷ []) rules

step_behind : (skipped : Bool) (rule : Option Said) (later : Option (List Said)) (last : Said)
    → step skipped rule (behind last later) ≡ behind last (step skipped rule later)
step_behind true rule later last = refl
step_behind false None later last = refl
step_behind false (Some r) None last = refl
step_behind false (Some r) (Some rs) last = refl

skipped_last : (lines : List Octets) (line : Octets) → is_skipped line ≡ true → rules_of (lines ++ line ∷ []) ≡ rules_of lines
skipped_last [] line skipped = ap (λ (s : Bool). step s (rule_of line) (Some [])) skipped
skipped_last (first ∷ lines) line skipped = ap (step (is_skipped first) (rule_of first)) (skipped_last lines line skipped)

rule_last : (lines : List Octets) (line : Octets) (last : Said) → is_skipped line ≡ false → rule_of line ≡ Some last
    → rules_of (lines ++ line ∷ []) ≡ behind last (rules_of lines)
rule_last [] line last skipped is =
    ap (λ (s : Bool). step s (rule_of line) (Some [])) skipped ∙ ap (λ (r : Option Said). step false r (Some [])) is
rule_last (first ∷ lines) line last skipped is =
    ap (step (is_skipped first) (rule_of first)) (rule_last lines line last skipped is)
    ∙ step_behind (is_skipped first) (rule_of first) (rules_of lines) last

module _ (lines : List Octets) (place : ℕ) (line : Octets) (rules : List Rule) (at : slice_get lines place ≡ Some line)
    (so_far : rules_of (take place lines) ≡ Some (map said rules)) where
  -- a line that says nothing
  pub one_skipped : is_skipped line ≡ true → rules_of (take (place + 1) lines) ≡ Some (map said rules)
  one_skipped skipped =
      ap rules_of (front_more lines place line at) ∙ skipped_last (take place lines) line skipped ∙ so_far

  -- a rule
  pub one_rule : (rule : Rule) → is_skipped line ≡ false → rule_of line ≡ Some (said rule)
      → rules_of (take (place + 1) lines) ≡ Some (map said (rules ++ rule ∷ []))
  one_rule rule skipped is =
      ap rules_of (front_more lines place line at) ∙ rule_last (take place lines) line (said rule) skipped is
      ∙ ap (behind (said rule)) so_far ∙ ap (λ (rs : List Said). Some rs) (sym (map-append said rules (rule ∷ [])))

-- the lines of a text
abbrev pub texts : List (Bor (List ℕ)) → List Octets
texts lines = map (λ (line : Bor (List ℕ)). line.now) lines

module _ (lines : List (Bor (List ℕ))) (place : ℕ) (other : Bor (List ℕ)) (rules : List Rule) (within : place < length lines)
    (so_far : rules_of (take place (texts lines)) ≡ Some (map said rules)) where
  at_place : slice_get (texts lines) place ≡ Some (get_or lines place other).now
  at_place =
      slice_get-map (λ (line : Bor (List ℕ)). line.now) lines place
      ∙ ap (option_map (λ (line : Bor (List ℕ)). line.now)) (slice_get-get_or lines place other within)

  pub skipped_at : is_skipped (get_or lines place other).now ≡ true → rules_of (take (place + 1) (texts lines)) ≡ Some (map said rules)
  skipped_at = one_skipped (texts lines) place (get_or lines place other).now rules at_place so_far

  pub rule_at : (rule : Rule) → is_skipped (get_or lines place other).now ≡ false
      → rule_of (get_or lines place other).now ≡ Some (said rule)
      → rules_of (take (place + 1) (texts lines)) ≡ Some (map said (rules ++ rule ∷ []))
  rule_at = one_rule (texts lines) place (get_or lines place other).now rules at_place so_far

  pub bad_at : is_skipped (get_or lines place other).now ≡ false → rule_of (get_or lines place other).now ≡ None
      → IsFirstBad (texts lines) (Bad (place + 1))
  bad_at skipped none =
      let e : place ≡ place + 1 - 1 = omega arith in (
        (get_or lines place other).now,
        omega arith,
        subst (λ (n : ℕ). slice_get (texts lines) n ≡ Some (get_or lines place other).now) e at_place,
        skipped,
        none,
        subst (λ (n : ℕ). is_some (rules_of (take n (texts lines))) ≡ true) e (ap is_some so_far),
      )
