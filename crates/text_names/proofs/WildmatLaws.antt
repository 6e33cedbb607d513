-- A wildmat by its parts between commas.
use Rattle.std.specs.Prelude.{◌≡◌, ℕ, Bool, true, false, not, cond, ◌&&◌, ◌==◌, nat_le, List, [], ◌∷◌, ◌++◌, length, map, reverse, find}
use Rattle.std.specs.Prelude.{fold, Option, Some, None, is_some, option_map, option_and_then, unwrap_or, IsTrue}
use Rattle.std.specs.List.{list_all, slice_split, onto_first}
use Rattle.std.proofs.Common.{◌∙◌, ap, sym, refl}
use Rattle.std.proofs.lemmas.Bool.{cond-false, eqb-true, and_left, and_right}
use Rattle.std.proofs.lemmas.List.{reverse-append}
use Rattle.std.proofs.lemmas.List.Splits.{slice_split-cons_yes, slice_split-cons_no}
use Rattle.model.specs.Names.{Pattern, begins, is_pattern_octet, is_run_of, item_of, is_wildmat, later_pattern_of, later_patterns_of}
use Rattle.model.specs.Names.{matches, parts, pattern_of, takes, wildmat_matches, wildmat_of, wildmat_of_parts}
use Rattle.text_names.specs.Patterns.{verdict_of}
use Rattle.text_names.proofs.PartLaws.{has_parts}

abbrev is_comma : ℕ → Bool
is_comma x = x == 44

abbrev is_mark : ℕ → Bool
is_mark x = x == 33

-- ---- the first part

-- the first part begins with ! where the text does
record IsParted (text : List ℕ) : Type 0 where
  first : List ℕ
  more : List (List ℕ)
  is : slice_split is_comma text ≡ first ∷ more
  begins_so : begins is_mark first ≡ begins is_mark text

parted : (text : List ℕ) → IsParted text
parted [] = record { first = []; more = []; is = refl; begins_so = refl }
parted (x ∷ xs) = by_mark (is_comma x) refl where
  by_mark : (b : Bool) → is_comma x ≡ b → IsParted (x ∷ xs)
  by_mark true is = record {
    first = [];
    more = slice_split is_comma xs;
    is = slice_split-cons_yes is_comma x xs is;
    begins_so = sym (ap is_mark (eqb-true x 44 is));
  }
  by_mark false is =
      let later = has_parts is_comma xs in
      record {
        first = x ∷ later.first;
        more = later.more;
        is = slice_split-cons_no is_comma x xs is ∙ ap (onto_first x) later.is;
        begins_so = refl;
      }

-- a first pattern without ! is like a later one, and one with ! is none
first_alike : (first : List ℕ) → begins is_mark first ≡ false → pattern_of false first ≡ later_pattern_of first
first_alike [] plain = refl
first_alike (x ∷ items) plain = sym (cond-false (x == 33) (pattern_of true items) (pattern_of false (x ∷ items)) plain)

no_first : (first : List ℕ) → begins is_mark first ≡ true → pattern_of false first ≡ None
no_first [] marked = absurd (cc)
no_first (x ∷ items) marked =
    cond-false (is_run_of is_pattern_octet (x ∷ items)) (Some (record { negated = false; items = map item_of (x ∷ items) })) None
    (and_right (nat_le 1 (length (x ∷ items))) (is_pattern_octet x && list_all is_pattern_octet items)
    (and_left (is_pattern_octet x) (list_all is_pattern_octet items) (ap is_pattern_octet (eqb-true x 33 marked))))

-- a text that doesn't begin with ! is a wildmat by its parts alone
pub wildmat_by_parts : (text : List ℕ) → begins is_mark text ≡ false → wildmat_of text ≡ later_patterns_of (parts 44 text)
wildmat_by_parts text plain =
    let p = parted text in
    ap wildmat_of_parts p.is
    ∙ ap (λ o. option_and_then (λ pattern. option_map (λ more. pattern ∷ more) (later_patterns_of p.more)) o)
    (first_alike p.first (p.begins_so ∙ plain))
    ∙ sym (ap later_patterns_of p.is)

-- a text that begins with ! is no wildmat
pub no_wildmat : (text : List ℕ) → begins is_mark text ≡ true → wildmat_of text ≡ None
no_wildmat text marked =
    let p = parted text in
    ap wildmat_of_parts p.is
    ∙ ap (λ o. option_and_then (λ pattern. option_map (λ more. pattern ∷ more) (later_patterns_of p.more)) o)
    (no_first p.first (p.begins_so ∙ marked))

-- ---- all parts

both_some : {A B C : Type 0} (join : A → B → C) (o : Option A) (more : Option B)
    → is_some (option_and_then (λ a. option_map (join a) more) o) ≡ (is_some o && is_some more)
both_some join None more = refl
both_some join (Some a) None = refl
both_some join (Some a) (Some b) = refl

-- there are patterns where each part is one
pub all_patterns : (texts : List (List ℕ)) → is_some (later_patterns_of texts) ≡ list_all (λ text. is_some (later_pattern_of text)) texts
all_patterns [] = refl
all_patterns (text ∷ texts) =
    both_some (λ pattern later. pattern ∷ later) (later_pattern_of text) (later_patterns_of texts)
    ∙ ap (λ b. is_some (later_pattern_of text) && b) (all_patterns texts)

-- ---- the verdict

module _ (name : List ℕ) where
  -- the last pattern that takes the name decides
  last_decides : (patterns : List Pattern) (decided : Bool)
      → fold (λ d p. cond (takes p.items name) (not p.negated) d) decided patterns
      ≡ unwrap_or (option_map (λ (p : Pattern). not p.negated) (find (λ p. takes p.items name) (reverse patterns))) decided
  last_decides [] decided = refl
  last_decides (pattern ∷ patterns) decided =
      last_decides patterns (cond (takes pattern.items name) (not pattern.negated) decided)
      ∙ sym (pushed (reverse patterns))
      ∙ ap (λ l. unwrap_or (option_map (λ (p : Pattern). not p.negated) (find (λ p. takes p.items name) l)) decided)
      (sym (reverse-append (pattern ∷ []) patterns))
    where
      pushed : (earlier : List Pattern)
          → unwrap_or (option_map (λ (p : Pattern). not p.negated) (find (λ p. takes p.items name) (earlier ++ pattern ∷ []))) decided
          ≡ unwrap_or (option_map (λ (p : Pattern). not p.negated) (find (λ p. takes p.items name) earlier))
          (cond (takes pattern.items name) (not pattern.negated) decided)
      pushed [] = elim (takes pattern.items name) as
          (λ b. unwrap_or (option_map (λ (p : Pattern). not p.negated) (cond b (Some pattern) None)) decided
          ≡ cond b (not pattern.negated) decided) [ true ↦ refl | false ↦ refl ]
      pushed (p ∷ earlier) =
          elim (takes p.items name) as (λ b. unwrap_or
          (option_map (λ (q : Pattern). not q.negated) (cond b (Some p) (find (λ q. takes q.items name) (earlier ++ pattern ∷ []))))
          decided
          ≡ unwrap_or (option_map (λ (q : Pattern). not q.negated) (cond b (Some p) (find (λ q. takes q.items name) earlier)))
          (cond (takes pattern.items name) (not pattern.negated) decided)) [ true ↦ refl | false ↦ pushed earlier ]

  -- what a part says is what its pattern says
  said : (negated : Bool) (items : List ℕ) (pattern : Pattern) (decided : Bool) → pattern_of negated items ≡ Some pattern
      → unwrap_or (cond (takes (map item_of items) name) (Some (not negated)) None) decided ≡ cond (takes pattern.items name)
      (not pattern.negated) decided
  said negated items pattern decided is = by_test (is_run_of is_pattern_octet items) is where
    by_test : (b : Bool) → cond b (Some (record { negated = negated; items = map item_of items })) None ≡ Some pattern
        → unwrap_or (cond (takes (map item_of items) name) (Some (not negated)) None) decided ≡ cond (takes pattern.items name)
        (not pattern.negated) decided
    by_test false none = absurd (cc)
    by_test true some =
        let same : record { negated = negated; items = map item_of items } ≡ pattern = cc in
        elim (takes (map item_of items) name) as
        (λ b. unwrap_or (cond b (Some (not negated)) None) decided ≡ cond b (not negated) decided) [ true ↦ refl | false ↦ refl ]
        ∙ ap (λ (p : Pattern). cond (takes p.items name) (not p.negated) decided) same

  part_says : (text : List ℕ) (pattern : Pattern) (decided : Bool) → later_pattern_of text ≡ Some pattern
      → unwrap_or (verdict_of name text) decided ≡ cond (takes pattern.items name) (not pattern.negated) decided
  part_says [] pattern decided is = absurd (cc)
  part_says (x ∷ items) pattern decided is = by_mark (x == 33) is where
    by_mark : (b : Bool) → cond b (pattern_of true items) (pattern_of false (x ∷ items)) ≡ Some pattern
        → unwrap_or (cond b (cond (takes (map item_of items) name) (Some false) None)
        (cond (takes (map item_of (x ∷ items)) name) (Some true) None)) decided ≡ cond (takes pattern.items name)
        (not pattern.negated) decided
    by_mark true marked = said true items pattern decided marked
    by_mark false plain = said false (x ∷ items) pattern decided plain

  -- all parts say what all patterns say
  parts_say : (texts : List (List ℕ)) (patterns : List Pattern) (decided : Bool) → later_patterns_of texts ≡ Some patterns
      → fold (λ d text. unwrap_or (verdict_of name text) d) decided texts
      ≡ fold (λ d p. cond (takes p.items name) (not p.negated) d) decided patterns
  parts_say [] patterns decided is = let none : [] ≡ patterns = cc in
      ap (fold (λ d p. cond (takes p.items name) (not p.negated) d) decided) none
  parts_say (text ∷ texts) patterns decided is =
      by_first (later_pattern_of text) refl (later_patterns_of texts) refl (λ more d rest. parts_say texts more d rest) is where
        by_first : (o : Option Pattern) → later_pattern_of text ≡ o → (later : Option (List Pattern)) → later_patterns_of texts ≡ later
            → ((more : List Pattern) (d : Bool) → later_patterns_of texts ≡ Some more
            → fold (λ d part. unwrap_or (verdict_of name part) d) d texts
            ≡ fold (λ d p. cond (takes p.items name) (not p.negated) d) d more)
            → option_and_then (λ pattern. option_map (λ more. pattern ∷ more) later) o ≡ Some patterns
            → fold (λ d part. unwrap_or (verdict_of name part) d) decided (text ∷ texts)
            ≡ fold (λ d p. cond (takes p.items name) (not p.negated) d) decided patterns
        by_first None first later rest say all = absurd (cc)
        by_first (Some pattern) first None rest say all = absurd (cc)
        by_first (Some pattern) first (Some more) rest say all =
            let same : pattern ∷ more ≡ patterns = cc in
            ap (λ d. fold (λ d part. unwrap_or (verdict_of name part) d) d texts) (part_says text pattern decided first)
            ∙ say more (cond (takes pattern.items name) (not pattern.negated) decided) rest
            ∙ ap (fold (λ d p. cond (takes p.items name) (not p.negated) d) decided) same

  -- the verdict of a wildmat, part by part
  pub wildmat_says : (text : List ℕ) → IsTrue (is_wildmat text)
      → fold (λ d part. unwrap_or (verdict_of name part) d) false (parts 44 text) ≡ wildmat_matches text name
  wildmat_says text good = by_mark (begins is_mark text) refl where
    by_patterns : (o : Option (List Pattern)) → wildmat_of text ≡ o → later_patterns_of (parts 44 text) ≡ o → is_some o ≡ true
        → fold (λ d part. unwrap_or (verdict_of name part) d) false (parts 44 text) ≡ wildmat_matches text name
    by_patterns None is later some = absurd (cc)
    by_patterns (Some patterns) is later some =
        parts_say (parts 44 text) patterns false later
        ∙ last_decides patterns false
        ∙ sym (ap (λ o. unwrap_or (option_map (λ wildmat. matches wildmat name) o) false) is)

    by_mark : (b : Bool) → begins is_mark text ≡ b
        → fold (λ d part. unwrap_or (verdict_of name part) d) false (parts 44 text) ≡ wildmat_matches text name
    by_mark true marked = absurd (cc (good, ap is_some (no_wildmat text marked)))
    by_mark false plain = by_patterns (wildmat_of text) refl (sym (wildmat_by_parts text plain)) good
