-- What is left of an article that is gone is an article with the same id and groups.
use Rattle.std.proofs.Common.{◌≡◌, ℕ, ◌+◌, ◌-◌, ◌*◌, ◌<◌, ◌≤◌, List, [], ◌∷◌, ◌++◌, map, inl, inr, refl, sym, ◌∙◌, ap, arith, Bool}
use Rattle.std.proofs.Common.{true, false, cond, length-append}
use Rattle.std.specs.Prelude.{length, take, find, reverse, nat_eq, nat_le, nat_lt, Option, Some, None, option_map, unwrap_or}
use Rattle.std.specs.Prelude.{bytes_eq, codes, not, ◌&&◌, ◌||◌, ◌==◌}
use Rattle.std.specs.List.{All, concat, list_all, list_any, ends_with, join_with_byte}
use Rattle.std.specs.Char.{is_ascii_alphanumeric}
use Rattle.std.specs.Option.{option_or}
use Rattle.std.proofs.lemmas.Bool.{true≢false, and_parts, and_from, or_right, or_cases, or_from, not_from_false, not-true, cond-true}
use Rattle.std.proofs.lemmas.Bool.{ne_eqb, eqb-true, le-leb, leb-true}
use Rattle.std.proofs.lemmas.List.{reverse-append, reverse-reverse}
use Rattle.std.proofs.lemmas.List.Elements.{All-nil, All-cons}
use Rattle.std.proofs.lemmas.List.Folds.{list_all-append}
use Rattle.std.proofs.lemmas.List.Splits.{slice_split_none, slice_split_at}
use Rattle.std.proofs.Math.Seq.{take-append_seam}
use Rattle.model.specs.Stream.{Octets, crlf, line, lines_after}
use Rattle.model.specs.Names.{is_blank, is_dotted, is_group_name, is_group_octet, is_message_id, is_visible, parts}
use Rattle.model.specs.Article.{Carried, are_distinct, cause, cause_but_long, content_of, field_count, fields, fields_of_lines}
use Rattle.model.specs.Article.{groups_of, has_good_groups, has_good_id, header, id as id_in, is_named, is_short, lacks_field}
use Rattle.model.specs.Article.{line_text, long_cause, own_id, single_fields, trimmed, trimmed_start, written_fields}
use Rattle.model.specs.Article.{added_fields, id_in_field, is_blank_field}
use Rattle.model_renewed.specs.Renewed.{husk}
use Rattle.model.specs.declared.cause.Cause.TheVariants.{Long}
use Rattle.model.proofs.Ends.{ends_with-append}
use Rattle.model.proofs.Asking.{AreFew}
use Rattle.model.proofs.Ids.{no_tests, runs_pass, split_pass}
use Rattle.model.proofs.Stored.{Begins, begins_more, header_front, is_no_lf, is_plain, no_lf, visible_unblank}
use Rattle.model.proofs.StoredArticles.{Shaped, letter_visible, shaped_more, unfolded_line}

-- ---- octets of ids and of names

-- visible, and no comma
abbrev is_tight : ℕ → Bool
is_tight x = is_visible x && not (x == 44)

visible_plain : (x : ℕ) → is_visible x ≡ true → is_plain x ≡ true
visible_plain x visible =
    not_from_false _ (or_from (x == 0) (x == 10 || x == 13) (apart 0 refl) (or_from (x == 10) (x == 13) (apart 10 refl) (apart 13 refl)))
  where
    apart : (bad : ℕ) → is_visible bad ≡ false → (x == bad) ≡ false
    apart bad hidden = ne_eqb x bad (λ same. true≢false (sym visible ∙ ap is_visible same ∙ hidden))

all_more : (p q : ℕ → Bool) → ((x : ℕ) → p x ≡ true → q x ≡ true) → (xs : Octets) → list_all p xs ≡ true → list_all q xs ≡ true
all_more p q wider [] all = refl
all_more p q wider (x ∷ xs) all =
    let both = and_parts (p x) (list_all p xs) all in
    and_from (q x) (list_all q xs) (wider x both.0) (all_more p q wider xs both.1)

tight_visible : (x : ℕ) → is_tight x ≡ true → is_visible x ≡ true
tight_visible x tight = (and_parts (is_visible x) (not (x == 44)) tight).0

octet_tight : (x : ℕ) → is_group_octet x ≡ true → is_tight x ≡ true
octet_tight x is = elim (or_cases (is_ascii_alphanumeric x) (x == 43 || (x == 45 || x == 95)) is) [
  | inr sign ↦ elim (or_cases (x == 43) (x == 45 || x == 95) sign) [
    | inl plus ↦ ap is_tight (eqb-true x 43 plus)
    | inr other ↦ elim (or_cases (x == 45) (x == 95) other) [
      | inl dash ↦ ap is_tight (eqb-true x 45 dash)
      | inr bar ↦ ap is_tight (eqb-true x 95 bar)
    ]
  ]
  | inl letter ↦ and_from (is_visible x) _ (letter_visible x letter)
      (not_from_false _ (ne_eqb x 44 (λ same. true≢false (sym letter ∙ ap is_ascii_alphanumeric same))))
]

name_tight : (g : Octets) → is_group_name g ≡ true → list_all is_tight g ≡ true
name_tight g good =
    split_pass is_group_octet (λ x. x == 46) is_tight octet_tight (λ x is. ap is_tight (eqb-true x 46 is)) g
    (runs_pass is_group_octet (parts 46 g) (and_parts (nat_le (length g) 40) (is_dotted is_group_octet g) good).1)

name_some : (g : Octets) → is_group_name g ≡ true → 1 ≤ length g
name_some [] good = absurd (true≢false (sym good))
name_some (x ∷ g) good = omega arith

-- ---- a text without blanks is left as it is

no_blank : (xs : Octets) → list_all is_visible xs ≡ true → trimmed_start xs ≡ xs
unfolding trimmed_start
no_blank [] all = refl
no_blank (x ∷ xs) all =
    ap (λ b. cond b (trimmed_start xs) (x ∷ xs)) (visible_unblank x (and_parts (is_visible x) (list_all is_visible xs) all).0)

all_reversed : (p : ℕ → Bool) (xs : Octets) → list_all p xs ≡ true → list_all p (reverse xs) ≡ true
all_reversed p [] all = refl
all_reversed p (x ∷ xs) all =
    let both = and_parts (p x) (list_all p xs) all in
    ap (list_all p) (reverse-append (x ∷ []) xs)
    ∙ list_all-append p (reverse xs) (x ∷ [])
    ∙ and_from (list_all p (reverse xs)) _ (all_reversed p xs both.1) (and_from (p x) true both.0 refl)

trimmed_same : (xs : Octets) → list_all is_visible xs ≡ true → trimmed xs ≡ xs
trimmed_same xs all =
    ap (λ ys. reverse (trimmed_start (reverse ys))) (no_blank xs all)
    ∙ ap reverse (no_blank (reverse xs) (all_reversed is_visible xs all))
    ∙ reverse-reverse xs

-- it is not blank
not_blank : (xs : Octets) → 1 ≤ length xs → list_all is_visible xs ≡ true → list_all is_blank xs ≡ false
not_blank [] some all = absurd (omega arith)
not_blank (x ∷ xs) some all =
    ap (λ b. b && list_all is_blank xs) (visible_unblank x (and_parts (is_visible x) (list_all is_visible xs) all).0)

line_kept : (xs : Octets) → line_text (line xs) ≡ xs
line_kept xs =
    let size : length (line xs) - 2 ≡ length xs = omega (arith, length-append xs crlf) in
    cond-true (ends_with nat_eq (line xs) crlf) (take (length (line xs) - 2) (line xs)) (line xs)
    (ends_with-append xs crlf crlf (omega arith))
    ∙ ap (λ n. take n (line xs)) size
    ∙ take-append_seam xs crlf

-- ---- names, joined by commas

abbrev joined : List Octets → Octets
joined names = join_with_byte 44 names

abbrev is_comma : ℕ → Bool
is_comma x = x == 44

no_comma : (g : Octets) → list_all is_tight g ≡ true → All (λ x. is_comma x ≡ false) g
no_comma [] all = All-nil (λ x. is_comma x ≡ false)
no_comma (x ∷ g) all =
    let both = and_parts (is_tight x) (list_all is_tight g) all in
    All-cons (λ y. is_comma y ≡ false) x g (not-true _ (and_parts (is_visible x) (not (x == 44)) both.0).1) (no_comma g both.1)

joined_visible : (names : List Octets) → list_all is_group_name names ≡ true → list_all is_visible (joined names) ≡ true
joined_visible [] all = refl
joined_visible (g ∷ []) all =
    all_more is_tight is_visible tight_visible g (name_tight g (and_parts (is_group_name g) true all).0)
joined_visible (g ∷ next ∷ names) all =
    let both = and_parts (is_group_name g) (list_all is_group_name (next ∷ names)) all in
    list_all-append is_visible g (44 ∷ joined (next ∷ names))
    ∙ and_from (list_all is_visible g) _ (all_more is_tight is_visible tight_visible g (name_tight g both.0))
    (joined_visible (next ∷ names) both.1)

joined_some : (names : List Octets) → 0 < length names → list_all is_group_name names ≡ true → 1 ≤ length (joined names)
joined_some [] some all = absurd (omega arith)
joined_some (g ∷ []) some all = name_some g (and_parts (is_group_name g) true all).0
joined_some (g ∷ next ∷ names) some all = omega (arith, length-append g (44 ∷ joined (next ∷ names)))

joined_size : (names : List Octets) → list_all is_group_name names ≡ true → length (joined names) ≤ 41 * length names
joined_size [] all = omega arith
joined_size (g ∷ []) all =
    omega (
      arith,
      leb-true (length g) 40 (and_parts (nat_le (length g) 40) (is_dotted is_group_octet g)
          (and_parts (is_group_name g) true all).0).0,
    )
joined_size (g ∷ next ∷ names) all =
    let both = and_parts (is_group_name g) (list_all is_group_name (next ∷ names)) all in
    omega (
      arith,
      length-append g (44 ∷ joined (next ∷ names)),
      joined_size (next ∷ names) both.1,
      leb-true (length g) 40 (and_parts (nat_le (length g) 40) (is_dotted is_group_octet g) both.0).0,
    )

parts_joined : (names : List Octets) → 0 < length names → list_all is_group_name names ≡ true → parts 44 (joined names) ≡ names
parts_joined [] some all = absurd (omega arith)
parts_joined (g ∷ []) some all = slice_split_none is_comma g (no_comma g (name_tight g (and_parts (is_group_name g) true all).0))
parts_joined (g ∷ next ∷ names) some all =
    let both = and_parts (is_group_name g) (list_all is_group_name (next ∷ names)) all in
    slice_split_at is_comma g 44 (joined (next ∷ names)) (no_comma g (name_tight g both.0)) refl
    ∙ ap (λ ps. g ∷ ps) (parts_joined (next ∷ names) (omega arith) both.1)

names_trimmed : (names : List Octets) → list_all is_group_name names ≡ true → map trimmed names ≡ names
names_trimmed [] all = refl
names_trimmed (g ∷ names) all =
    let both = and_parts (is_group_name g) (list_all is_group_name names) all in
    let one : trimmed g ≡ g = trimmed_same g (all_more is_tight is_visible tight_visible g (name_tight g both.0)) in
    λ i. one i ∷ names_trimmed names both.1 i

-- ---- the husk

module _ (id : Octets) (names : List Octets) (valid : is_message_id id ≡ true) (some : 0 < length names) (few : AreFew names)
    (distinct : are_distinct names ≡ true) where
  abbrev id_body : Octets
  id_body = codes "Message-ID: " ++ id

  abbrev groups_body : Octets
  groups_body = codes "Newsgroups: " ++ joined names

  id_visible : list_all is_visible id ≡ true
  id_visible = (and_parts (list_all is_visible id) _ (and_parts (nat_le 3 (length id) && nat_le (length id) 250) _ valid).1).0

  id_some : 1 ≤ length id
  id_some = omega (
    arith,
    leb-true 3 (length id) (and_parts (nat_le 3 (length id)) (nat_le (length id) 250)
        (and_parts (nat_le 3 (length id) && nat_le (length id) 250) _ valid).0).0,
  )

  id_plain : list_all is_plain id ≡ true
  id_plain = all_more is_visible is_plain visible_plain id id_visible

  groups_plain : list_all is_plain (joined names) ≡ true
  groups_plain = all_more is_visible is_plain visible_plain (joined names) (joined_visible names few.named)

  shaped : Shaped (husk id names)
  unfolding lines_after fields_of_lines
  shaped =
      shaped_more true (codes "Path: -") _ refl refl refl
      (shaped_more true (codes "Date: -") _ refl refl refl
      (shaped_more true (codes "From: -") _ refl refl refl
      (shaped_more true (codes "Subject: -") _ refl refl refl
      (shaped_more true id_body _ id_plain refl refl
      (shaped_more true groups_body crlf groups_plain refl refl ending)))))
    where
      ending : Shaped crlf
      ending = record { lines_alone = refl; some = refl; empty = refl; alone = refl }

  begun : Begins crlf (line (codes "Path: -") ∷ line (codes "Date: -") ∷ line (codes "From: -") ∷ line (codes "Subject: -")
      ∷ line id_body ∷ line groups_body ∷ []) (husk id names)
  unfolding lines_after fields_of_lines
  begun =
      begins_more true (codes "Path: -") crlf _ _ refl refl refl
      (begins_more true (codes "Date: -") crlf _ _ refl refl refl
      (begins_more true (codes "From: -") crlf _ _ refl refl refl
      (begins_more true (codes "Subject: -") crlf _ _ refl refl refl
      (begins_more true id_body crlf _ _ (no_lf id id_plain) refl refl
      (begins_more true groups_body crlf crlf [] (no_lf (joined names) groups_plain) refl refl ending)))))
    where
      ending : Begins crlf [] crlf
      ending = record { starts = refl; fields_are = refl }

  fields_are : fields (husk id names) ≡ line (codes "Path: -") ∷ line (codes "Date: -") ∷ line (codes "From: -") ∷ line (codes "Subject: -")
      ∷ line id_body ∷ line groups_body ∷ []
  unfolding lines_after fields_of_lines
  fields_are = begun.fields_are

  pub husk_id : own_id (husk id names) ≡ Some id
  husk_id =
      ap (λ fs. option_map id_in_field (find (is_named (codes "Message-ID")) fs)) fields_are
      ∙ ap Some (ap trimmed (line_kept id) ∙ trimmed_same id id_visible)

  pub husk_groups : groups_of (husk id names) ≡ names
  husk_groups =
      ap (λ fs. map trimmed (parts 44 (unwrap_or (option_map content_of (find (is_named (codes "Newsgroups")) fs)) []))) fields_are
      ∙ ap (λ c. map trimmed (parts 44 c)) (unfolded_line (joined names) (no_lf (joined names) groups_plain))
      ∙ ap (map trimmed) (parts_joined names some few.named)
      ∙ names_trimmed names few.named

  good_id : has_good_id Carried (husk id names) ≡ true
  good_id = or_right (field_count (codes "Message-ID") (husk id names) == 0) (is_message_id (id_in (husk id names)))
      (ap (λ (o : Option Octets). is_message_id (unwrap_or o [])) husk_id ∙ valid)

  good_groups : has_good_groups (husk id names) ≡ true
  good_groups =
      ap (λ gs. (nat_le (length gs) 16 && list_all is_group_name gs) && are_distinct gs) husk_groups
      ∙ and_from (nat_le (length names) 16 && list_all is_group_name names) _
      (and_from (nat_le (length names) 16) _ (le-leb _ _ few.count) few.named) distinct

  once_each : list_any (λ name. nat_lt 1 (field_count name (husk id names))) single_fields ≡ false
  once_each = rw fields_are refl

  none_missing : list_any (λ name. field_count name (husk id names) == 0) (written_fields ++ added_fields) ≡ false
  none_missing = rw fields_are refl

  -- no field of these names is blank
  abbrev six_lines : List Octets
  six_lines = line (codes "Path: -") ∷ line (codes "Date: -") ∷ line (codes "From: -") ∷ line (codes "Subject: -") ∷ line id_body
      ∷ line groups_body ∷ []

  abbrev blank_one : Octets → Bool
  blank_one name = list_any (λ field. is_named name field && list_all is_blank (content_of field)) six_lines

  id_said : list_all is_blank (content_of (line id_body)) ≡ false
  id_said = ap (list_all is_blank) (unfolded_line id (no_lf id id_plain)) ∙ not_blank id id_some id_visible

  groups_said : list_all is_blank (content_of (line groups_body)) ≡ false
  groups_said =
      ap (list_all is_blank) (unfolded_line (joined names) (no_lf (joined names) groups_plain))
      ∙ not_blank (joined names) (joined_some names some few.named) (joined_visible names few.named)

  id_not_blank : blank_one (codes "Message-ID") ≡ false
  id_not_blank = ap (λ b. b || false) id_said

  groups_not_blank : blank_one (codes "Newsgroups") ≡ false
  groups_not_blank = ap (λ b. b || false) groups_said

  none_blank : list_any (is_blank_field (husk id names)) (written_fields ++ added_fields) ≡ false
  unfolding lines_after
  none_blank =
      ap (λ fs. list_any (λ name. list_any (λ field. is_named name field && list_all is_blank (content_of field)) fs)
      (written_fields ++ added_fields)) fields_are
      ∙ or_from (blank_one (codes "Newsgroups")) (blank_one (codes "Message-ID") || false) groups_not_blank
      (or_from (blank_one (codes "Message-ID")) false id_not_blank refl)

  there : lacks_field Carried (husk id names) ≡ false
  there = or_from (list_any (λ name. field_count name (husk id names) == 0) (written_fields ++ added_fields)) _ none_missing none_blank

  none_but_long : cause_but_long Carried (husk id names) ≡ None
  none_but_long = no_tests Carried (husk id names) (record {
    lines_alone = and_from (nat_lt 0 (length (husk id names))) _ shaped.some shaped.lines_alone;
    empty_line = shaped.empty;
    fields_alone = shaped.alone;
    once = once_each;
    there = there;
    good_id = good_id;
    good_groups = good_groups;
  })

  -- ---- size

  id_few : length id ≤ 250
  id_few = leb-true (length id) 250 (and_parts (nat_le 3 (length id)) (nat_le (length id) 250)
      (and_parts (nat_le 3 (length id) && nat_le (length id) 250) _ valid).0).1

  in_front : (body text : Octets) → list_all is_no_lf body ≡ true → bytes_eq (line body) crlf ≡ false
      → header (line body ++ text) ≡ line body ++ header text
  in_front body text plain some = ap concat (header_front body text plain some)

  -- how many more octets a line in front makes
  abbrev more : Octets → ℕ
  more body = length body + 2

  added_size : (body text : Octets) → list_all is_no_lf body ≡ true → bytes_eq (line body) crlf ≡ false
      → (length (header (line body ++ text)) ≡ more body + length (header text)) × (length (line body ++ text) ≡ more body + length text)
  added_size body text plain some = (
    omega (
      arith,
      ap (λ (o : Octets). length o) (in_front body text plain some),
      length-append (line body) (header text),
      length-append body crlf,
    ),
    omega (arith, length-append (line body) text, length-append body crlf),
  )

  abbrev before_groups : Octets
  before_groups = line groups_body ++ crlf

  abbrev before_id : Octets
  before_id = line id_body ++ before_groups

  abbrev before_subject : Octets
  before_subject = line (codes "Subject: -") ++ before_id

  abbrev before_from : Octets
  before_from = line (codes "From: -") ++ before_subject

  abbrev before_date : Octets
  before_date = line (codes "Date: -") ++ before_from

  no_header : length (header crlf) ≡ 0
  unfolding lines_after
  no_header = refl

  pub sizes : (length (header (husk id names)) ≤ 1_024) × (length (husk id names) ≤ 1_024)
  sizes =
      let path = added_size (codes "Path: -") before_date refl refl in
      let date = added_size (codes "Date: -") before_from refl refl in
      let from = added_size (codes "From: -") before_subject refl refl in
      let subject = added_size (codes "Subject: -") before_id refl refl in
      let its_id = added_size id_body before_groups (no_lf id id_plain) refl in
      let its_groups = added_size groups_body crlf (no_lf (joined names) groups_plain) refl in
      let id_length = length-append (codes "Message-ID: ") id in
      let groups_length = length-append (codes "Newsgroups: ") (joined names) in
      let most = joined_size names few.named in (
        omega (
          arith,
          path.0,
          date.0,
          from.0,
          subject.0,
          its_id.0,
          its_groups.0,
          no_header,
          id_length,
          groups_length,
          most,
          few.count,
          id_few,
        ),
        omega (arith, path.1, date.1, from.1, subject.1, its_id.1, its_groups.1, id_length, groups_length, most, few.count, id_few),
      )

  short : is_short (husk id names) ≡ true
  short = and_from (nat_le (length (header (husk id names))) 8_192) _ (le-leb _ _ (omega (arith, sizes.0)))
      (le-leb _ _ (omega (arith, sizes.1)))

  pub husk_carried : cause Carried (husk id names) ≡ None
  unfolding cause
  husk_carried =
      ap (λ o. option_or o (long_cause Carried (husk id names))) none_but_long
      ∙ ap (λ b. cond b None (Some Long)) short
