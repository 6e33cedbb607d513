-- Message-ID and Newsgroups, over the fields of a text.
use Rattle.std.specs.Prelude.{◌≡◌, ℕ, suc, ◌+◌, ◌-◌, ◌<◌, ◌≤◌, Bool, true, false, not, ◌||◌, ◌&&◌, ◌==◌, List, [], ◌∷◌, ◌++◌, length, take}
use Rattle.std.specs.Prelude.{drop, map, find, count_by, codes, Option, Some, None, option_map, unwrap_or, bytes_eq, slice_index_or}
use Rattle.std.specs.List.{list_any}
use Rattle.std.proofs.Common.{sym, ◌∙◌, ap, refl, arith, Bor}
use Rattle.std.proofs.lemmas.Bool.{eq-eqb, eqb-true, false_from_ne_true}
use Rattle.std.proofs.lemmas.List.{append_assoc, drop-drop, nil_from_length, take_all}
use Rattle.std.proofs.lemmas.List.Sums.{length-filter}
use Rattle.memchr.specs.Find.{Nowhere, NoneBefore, Passes, is_byte}
use Rattle.model.specs.Stream.{Octets}
use Rattle.model.specs.Names.{parts}
use Rattle.model.specs.Article.{Origin, allows_id, are_distinct, id_in_field, is_named, trimmed}
use Rattle.model.proofs.Ids.{none_kept, none_found}
use Rattle.text_article.specs.Causes.{has_good_id}
use Rattle.text_names.proofs.PartLaws.{cut_at, uncut}

abbrev is_id_field : Octets → Bool
is_id_field = is_named (codes "Message-ID")

-- without the field there is no message-id
pub good_id-none : (origin : Origin) (fields : List Octets) → find is_id_field fields ≡ None → true ≡ has_good_id origin fields
good_id-none origin fields none =
    sym (ap (λ b. b || allows_id origin (unwrap_or (option_map id_in_field (find is_id_field fields)) []))
    (eq-eqb (count_by is_id_field fields) 0 (sym (length-filter is_id_field fields) ∙ none_found is_id_field fields none)))

-- with the field, the id in it decides
pub good_id-some : (origin : Origin) (fields : List Octets) (field : Octets) (good : Bool) → find is_id_field fields ≡ Some field
    → good ≡ allows_id origin (id_in_field field) → good ≡ has_good_id origin fields
good_id-some origin fields field good some is =
    is ∙ ap (λ (o : Option Octets). allows_id origin (unwrap_or (option_map id_in_field o) [])) (sym some)
    ∙ sym (ap (λ b. b || allows_id origin (unwrap_or (option_map id_in_field (find is_id_field fields)) []))
    (false_from_ne_true (count_by is_id_field fields == 0) (λ none.
    let nothing : find is_id_field fields ≡ None = none_kept is_id_field fields (length-filter is_id_field fields ∙ eqb-true _ _ none) in
    cc)))

-- ---- parts

pub groups-more : (rest group later after : Octets) (end : ℕ) (before all : List Octets)
    → NoneBefore (Passes (is_byte 44) rest) 0 (length rest) end → Passes (is_byte 44) rest end
    → group ≡ take end rest → later ≡ drop end rest → after ≡ drop 1 later → before ++ map trimmed (parts 44 rest) ≡ all
    → (before ++ trimmed group ∷ []) ++ map trimmed (parts 44 after) ≡ all
groups-more rest group later after end before all first found front back next so_far =
    append_assoc before (trimmed group ∷ []) (map trimmed (parts 44 after))
    ∙ ap (λ l. before ++ l) (ap (λ g. trimmed g ∷ map trimmed (parts 44 after)) front
    ∙ ap (λ l. trimmed (take end rest) ∷ map trimmed (parts 44 l)) (next ∙ ap (drop 1) back ∙ drop-drop 1 end rest
    ∙ ap (λ n. drop n rest) (let e : end + 1 ≡ suc end = omega arith in e))
    ∙ ap (map trimmed) (sym (cut_at (λ x. x == 44) rest end first.high found
    (λ k below. false_from_ne_true _ (first.before k (omega arith) below)))))
    ∙ so_far

pub groups-last : (rest : Octets) (before all : List Octets) → Nowhere (Passes (is_byte 44) rest) 0 (length rest)
    → before ++ map trimmed (parts 44 rest) ≡ all → before ++ trimmed rest ∷ [] ≡ all
groups-last rest before all none so_far =
    ap (λ l. before ++ map trimmed l) (sym (uncut (λ x. x == 44) rest (λ k below. false_from_ne_true _ (none k (omega arith) below))))
    ∙ so_far

-- ---- distinct names

distinct-cons : (name : Octets) (names : List Octets)
    → are_distinct (name ∷ names) ≡ (not (list_any (bytes_eq name) names) && are_distinct names)
unfolding are_distinct
distinct-cons name names = refl

-- one name further
pub distinct-more : (rest : List (Bor Octets)) (d : Bor Octets) → 1 ≤ length rest
    → list_any (bytes_eq (slice_index_or rest 0 d).now) (map (λ (x : Bor Octets). x.now) (take (length rest - 1) (drop 1 rest))) ≡ false
    → are_distinct (map (λ (x : Bor Octets). x.now) (take (length rest - 1) (drop 1 rest)))
    ≡ are_distinct (map (λ (x : Bor Octets). x.now) rest)
distinct-more [] d some other = absurd (omega arith)
distinct-more (x ∷ rest) d some other =
    let all : take (length (x ∷ rest) - 1) rest ≡ rest = take_all (length (x ∷ rest) - 1) rest (omega arith) in
    ap (λ l. are_distinct (map (λ (y : Bor Octets). y.now) l)) all
    ∙ sym (distinct-cons x.now (map (λ (y : Bor Octets). y.now) rest)
    ∙ ap (λ b. not b && are_distinct (map (λ (y : Bor Octets). y.now) rest))
    (ap (λ l. list_any (bytes_eq x.now) (map (λ (y : Bor Octets). y.now) l)) (sym all) ∙ other))

-- where a name occurs again
pub distinct-twice : (rest : List (Bor Octets)) (d : Bor Octets) → 1 ≤ length rest
    → list_any (bytes_eq (slice_index_or rest 0 d).now) (map (λ (x : Bor Octets). x.now) (take (length rest - 1) (drop 1 rest))) ≡ true
    → are_distinct (map (λ (x : Bor Octets). x.now) rest) ≡ false
distinct-twice [] d some same = absurd (omega arith)
distinct-twice (x ∷ rest) d some same =
    let all : take (length (x ∷ rest) - 1) rest ≡ rest = take_all (length (x ∷ rest) - 1) rest (omega arith) in
    distinct-cons x.now (map (λ (y : Bor Octets). y.now) rest)
    ∙ ap (λ b. not b && are_distinct (map (λ (y : Bor Octets). y.now) rest))
    (ap (λ l. list_any (bytes_eq x.now) (map (λ (y : Bor Octets). y.now) l)) (sym all) ∙ same)

pub distinct-none : (rest : List (Bor Octets)) → length rest < 1 → are_distinct (map (λ (x : Bor Octets). x.now) rest) ≡ true
unfolding are_distinct
distinct-none rest none = ap (λ l. are_distinct (map (λ (y : Bor Octets). y.now) l)) (nil_from_length rest (omega arith))
