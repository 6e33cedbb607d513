-- The lines of the overview.
use Rattle.std.proofs.Common.{◌≡◌, ℕ, zero, suc, ◌+◌, ◌-◌, ◌≤◌, List, [], ◌∷◌, ◌++◌, map, take, drop, refl, sym, ◌∙◌, ap, subst, arith}
use Rattle.std.proofs.Common.{Bool, true, false, cond, ◌&&◌, ◌||◌, not}
use Rattle.std.proofs.Common.{append-nil, append_assoc}
use Rattle.std.specs.Prelude.{None, Some, Option, find, flat_map, length, bytes_eq, codes, decimal, nat_le, option_map, unwrap_or, ◌==◌}
use Rattle.std.specs.Prelude.{if◌then◌else◌}
use Rattle.std.specs.List.{concat, list_all, join_with_byte, prefix_len}
use Rattle.std.proofs.lemmas.Bool.{false≢true, and_parts, and_from, ne_eqb, not_from_false, leb-true}
use Rattle.std.proofs.lemmas.List.{length-append, length-take-le, take_at, length-map}
use Rattle.std.proofs.lemmas.List.Folds.{list_all-append}
use Rattle.std.specs.Char.{is_ascii_digit}
use Rattle.model.specs.Stream.{Octets, crlf, line, lines}
use Rattle.model.specs.Names.{begins, is_blank, is_run_of, is_visible}
use Rattle.model.specs.Article.{Carried, begins_field, body_lines, cause, content, content_of, fields, fields_of_lines, has_fields_alone}
use Rattle.model.specs.Article.{is_named, line_text, name_of, onto_field, overview_field, overview_line, unfolded}
use Rattle.model.proofs.Ends.{ends_with-append}
use Rattle.model.proofs.HoldsOne.{carried_cause, carried_size}
use Rattle.model.proofs.Ids.{HasNoCause, no_cause}
use Rattle.model.proofs.LineSizes.{lines_count}
use Rattle.model_rfc.specs.Grammar.{greatest_number, is_line_octet}
use Rattle.model_rfc.specs.Contents.{are_fields, is_overview}
use Rattle.model_rfc.specs.Grammar.{is_number}
use Rattle.model_rfc.proofs.Lists.{Every, all_more, every_find, lists_more}
use Rattle.model_rfc.proofs.Blocks.{lines_of}
use Rattle.model_rfc.proofs.Texts.{text_is}
use Rattle.model_rfc.proofs.Words.{digit_high, digits_of, high_clean, is_other, number_of, split_joined}

abbrev pub AllClean : List Octets → Type 0
AllClean ls = list_all (list_all is_line_octet) ls ≡ true

-- ---- lines without their ends

line_kept : (xs : Octets) → line_text (line xs) ≡ xs
line_kept xs =
    let size : length (line xs) - 2 ≡ length xs = omega (arith, length-append xs crlf) in
    ap (λ b. cond b (take (length (line xs) - 2) (line xs)) (line xs)) (ends_with-append xs crlf crlf (omega arith))
    ∙ ap (λ n. take n (line xs)) size
    ∙ take_at xs crlf (length xs) refl

pub all_kept : (ls : List Octets) → flat_map line_text (map line ls) ≡ concat ls
all_kept [] = refl
all_kept (l ∷ ls) = ap (λ s. s ++ flat_map line_text (map line ls)) (line_kept l) ∙ ap (λ s. l ++ s) (all_kept ls)

joined_clean : (ls : List Octets) → AllClean ls → list_all is_line_octet (concat ls) ≡ true
joined_clean [] clean = refl
joined_clean (l ∷ ls) clean =
    let both = and_parts (list_all is_line_octet l) (list_all (list_all is_line_octet) ls) clean in
    list_all-append is_line_octet l (concat ls) ∙ and_from (list_all is_line_octet l) _ both.0 (joined_clean ls both.1)

unfolded_clean : (ls : List Octets) → AllClean ls → list_all is_line_octet (unfolded (concat (map line ls))) ≡ true
unfolded_clean ls clean =
    ap (λ ws. list_all is_line_octet (flat_map line_text ws)) (lines_of ls clean) ∙ ap (list_all is_line_octet) (all_kept ls)
    ∙ joined_clean ls clean

pub drop_clean : (n : ℕ) (l : Octets) → list_all is_line_octet l ≡ true → list_all is_line_octet (drop n l) ≡ true
drop_clean zero l clean = clean
drop_clean (suc n) [] clean = refl
drop_clean (suc n) (x ∷ l) clean = drop_clean n l (and_parts (is_line_octet x) _ clean).1

pub drop_within : (n : ℕ) (l more : Octets) → n ≤ length l → drop n (l ++ more) ≡ drop n l ++ more
drop_within zero l more within = refl
drop_within (suc n) [] more within = absurd (omega arith)
drop_within (suc n) (x ∷ l) more within = drop_within n l more (omega arith)

-- ---- a field

-- the octets of a field are those of lines, of which the first is this one
pub record IsFieldOf (first f : Octets) : Type 0 where
  pub others : List Octets
  pub octets : f ≡ concat (map line (first ∷ others))
  pub clean : AllClean (first ∷ others)

-- it begins with a name, a colon and a SP
abbrev Begins : Octets → Type 0
Begins f = (first : Octets) × IsFieldOf first f × (begins_field (line first) ≡ true)

-- the fields of lines: each but the first begins with its name, and the first with the first line
abbrev AreFields : Octets → List Octets → Type 0
AreFields first [] = Unit {0}
AreFields first (f ∷ fs) = IsFieldOf first f × Every Begins fs

fields_are : (l : Octets) (later : List Octets) → AllClean (l ∷ later)
    → list_all (λ w. begins is_blank w || begins_field w) (map line later) ≡ true → AreFields l (fields_of_lines (map line (l ∷ later)))
unfolding fields_of_lines
fields_are l [] clean good = (record { others = []; octets = sym (append-nil (line l)); clean = clean }, tt)
fields_are l (m ∷ later) clean good =
    let both = and_parts (list_all is_line_octet l) (list_all (list_all is_line_octet) (m ∷ later)) clean in
    let passes = and_parts (begins is_blank (line m) || begins_field (line m)) _ good in
    by_blank (begins is_blank (line m)) refl (fields_of_lines (map line (m ∷ later))) (fields_are m later both.1 passes.1) both.0 passes.0
  where
    by_blank : (b : Bool) → begins is_blank (line m) ≡ b → (fs : List Octets) → AreFields m fs → list_all is_line_octet l ≡ true
        → (begins is_blank (line m) || begins_field (line m)) ≡ true
        → AreFields l (cond b (onto_field (line l) fs) (line l ∷ fs))
    by_blank true blank [] are clean_l passes = (
      record {
        others = [];
        octets = sym (append-nil (line l));
        clean =
            and_from (list_all is_line_octet l) true clean_l refl;
      },
      tt,
    )
    by_blank true blank (f ∷ fs) are clean_l passes = (
      record {
        others = m ∷ are.0.others;
        octets = ap (λ s. line l ++ s) are.0.octets;
        clean = and_from (list_all is_line_octet l) _ clean_l are.0.clean;
      },
      are.1,
    )
    by_blank false named [] are clean_l passes = (
      record {
        others = [];
        octets = sym (append-nil (line l));
        clean =
            and_from (list_all is_line_octet l) true clean_l refl;
      },
      tt,
    )
    by_blank false named (f ∷ fs) are clean_l passes = (
      record { others = []; octets = sym (append-nil (line l)); clean = and_from (list_all is_line_octet l) true clean_l refl },
      ((m, are.0, begins_name passes), are.1),
    )
      where
        begins_name : (begins is_blank (line m) || begins_field (line m)) ≡ true → begins_field (line m) ≡ true
        begins_name some = sym (ap (λ c. c || begins_field (line m)) named) ∙ some

-- the name of a field stands in its first line
abbrev pub is_named_octet : ℕ → Bool
is_named_octet x = not (x == 58)

pub prefix_short : (xs : Octets) → prefix_len is_named_octet xs ≤ length xs
prefix_short [] = omega arith
prefix_short (x ∷ xs) = by_test (is_named_octet x) (prefix_short xs) where
  by_test : (b : Bool) → prefix_len is_named_octet xs ≤ length xs → cond b (1 + prefix_len is_named_octet xs) 0 ≤ suc (length xs)
  by_test true short = omega arith
  by_test false short = omega arith

both_false : (b : Bool) → (b && false) ≡ true → ⊥
both_false true is = false≢true is
both_false false is = false≢true is

pub prefix_within : (l more : Octets) → bytes_eq (take 2 (drop (prefix_len is_named_octet (l ++ crlf)) (l ++ crlf))) (codes ": ") ≡ true
    → prefix_len is_named_octet (l ++ (crlf ++ more)) + 2 ≤ length l
prefix_within [] more is = absurd (false≢true is)
prefix_within (x ∷ l) more is = by_test (is_named_octet x) l is (prefix_within l more) where
  by_test : (b : Bool) (k : Octets) → bytes_eq (take 2 (drop (cond b (1 + prefix_len is_named_octet (k ++ crlf)) 0) (x ∷ (k ++ crlf))))
      (codes ": ") ≡ true
      → (bytes_eq (take 2 (drop (prefix_len is_named_octet (k ++ crlf)) (k ++ crlf))) (codes ": ") ≡ true
      → prefix_len is_named_octet (k ++ (crlf ++ more)) + 2 ≤ length k)
      → cond b (1 + prefix_len is_named_octet (k ++ (crlf ++ more))) 0 + 2 ≤ suc (length k)
  by_test true k found later =
      let shift : 1 + prefix_len is_named_octet (k ++ crlf) ≡ suc (prefix_len is_named_octet (k ++ crlf)) = omega arith in
      let rest = later (sym (ap (λ n. bytes_eq (take 2 (drop n (x ∷ (k ++ crlf)))) (codes ": ")) shift) ∙ found) in
      omega (arith, rest)
  by_test false [] found later = absurd (both_false (x == 58) found)
  by_test false (y ∷ k) found later = omega arith

pub name_within : (l more : Octets) → begins_field (line l) ≡ true → length (name_of (line l ++ more)) + 2 ≤ length l
name_within l more is =
    let second = (and_parts (is_run_of is_visible (name_of (line l))) _ is).1 in
    let size : length (name_of (line l)) ≡ prefix_len is_named_octet (line l) =
    length-take-le (prefix_len is_named_octet (line l)) (line l) (prefix_short (line l)) in
    let found : bytes_eq (take 2 (drop (prefix_len is_named_octet (line l)) (line l))) (codes ": ") ≡ true =
    sym (ap (λ n. bytes_eq (take 2 (drop n (line l))) (codes ": ")) size) ∙ second in
    let whole : length (name_of (line l ++ more)) ≡ prefix_len is_named_octet (line l ++ more) =
    length-take-le (prefix_len is_named_octet (line l ++ more)) (line l ++ more) (prefix_short (line l ++ more)) in
    let same : prefix_len is_named_octet (line l ++ more) ≡ prefix_len is_named_octet (l ++ (crlf ++ more)) =
    ap (prefix_len is_named_octet) (append_assoc l crlf more) in
    omega (arith, whole, same, prefix_within l more found)

content_clean : (f : Octets) → Begins f → list_all is_line_octet (content_of f) ≡ true
content_clean f (l, of, begin) =
    let both = and_parts (list_all is_line_octet l) (list_all (list_all is_line_octet) of.others) of.clean in
    let rest : Octets = concat (map line of.others) in
    let n : ℕ = length (name_of (line l ++ rest)) + 2 in
    let within : n ≤ length l = name_within l rest begin in
    ap (λ g. list_all is_line_octet (unfolded (drop (length (name_of g) + 2) g))) of.octets
    ∙ ap (λ g. list_all is_line_octet (unfolded g))
    (ap (drop n) (append_assoc l crlf rest) ∙ drop_within n l (crlf ++ rest) within ∙ sym (append_assoc (drop n l) crlf rest))
    ∙ unfolded_clean (drop n l ∷ of.others) (and_from (list_all is_line_octet (drop n l)) _ (drop_clean n l both.0) both.1)

all_begin : (hs : List Octets) → AllClean hs → has_fields_alone (map line hs) ≡ true → Every Begins (fields_of_lines (map line hs))
unfolding fields_of_lines
all_begin [] clean good = tt
all_begin (h ∷ hs) clean good =
    let both = and_parts (begins_field (line h)) _ good in
    begin_all (fields_of_lines (map line (h ∷ hs))) (fields_are h hs clean both.1) both.0
  where
    begin_all : (fs : List Octets) → AreFields h fs → begins_field (line h) ≡ true → Every Begins fs
    begin_all [] are is = tt
    begin_all (f ∷ fs) are is = ((h, are.0, is), are.1)

-- ---- an article's overview

-- an octet of a field: no TAB either
abbrev is_field_octet : ℕ → Bool
is_field_octet x = is_line_octet x && is_other 9 x

tab_gone : (x : ℕ) → is_line_octet x ≡ true → is_field_octet (if x == 9 then 32 else x) ≡ true
tab_gone x clean = by_tab (x == 9) refl where
  by_tab : (b : Bool) → (x == 9) ≡ b → is_field_octet (cond b 32 x) ≡ true
  by_tab true tab = refl
  by_tab false other = and_from (is_line_octet x) _ clean (not_from_false (x == 9) other)

tabs_gone : (xs : Octets) → list_all is_line_octet xs ≡ true → list_all is_field_octet (map (λ x. if x == 9 then 32 else x) xs) ≡ true
tabs_gone [] clean = refl
tabs_gone (x ∷ xs) clean =
    let both = and_parts (is_line_octet x) (list_all is_line_octet xs) clean in
    and_from (is_field_octet (if x == 9 then 32 else x)) _ (tab_gone x both.0) (tabs_gone xs both.1)

field_clean : (name text : Octets) → cause Carried text ≡ None → list_all is_field_octet (overview_field name text) ≡ true
field_clean name text carried = tabs_gone (content name text) (by_field (find (is_named name) (fields text)) refl) where
  sound : HasNoCause Carried text
  sound = no_cause Carried text (carried_cause text carried)

  all : Every Begins (fields text)
  all =
      let t = text_is text carried in
      subst (λ (hs : List Octets). Every Begins (fields_of_lines hs)) (sym t.header_is)
      (all_begin t.split.headers t.split.clean_headers (sym (ap has_fields_alone t.header_is) ∙ sound.fields_alone))

  by_field : (o : Option Octets) → find (is_named name) (fields text) ≡ o
      → list_all is_line_octet (unwrap_or (option_map content_of o) []) ≡ true
  by_field None none = refl
  by_field (Some f) some = content_clean f (every_find Begins (is_named name) (fields text) f all some)

field_line : (x : ℕ) → is_field_octet x ≡ true → is_line_octet x ≡ true
field_line x is = (and_parts (is_line_octet x) _ is).0

field_other : (x : ℕ) → is_field_octet x ≡ true → is_other 9 x ≡ true
field_other x is = (and_parts (is_line_octet x) (is_other 9 x) is).1

digit_field : (x : ℕ) → is_ascii_digit x ≡ true → is_field_octet x ≡ true
digit_field x is =
    let low : 48 ≤ x = leb-true 48 x (and_parts (nat_le 48 x) (nat_le x 57) is).0 in
    and_from (is_line_octet x) _ (high_clean x (digit_high x is)) (not_from_false (x == 9) (ne_eqb x 9 (λ e. omega arith)))

number_fields : (n : ℕ) → n ≤ greatest_number → list_all is_field_octet (decimal n) ≡ true
number_fields n within =
    all_more is_ascii_digit is_field_octet digit_field (decimal n)
    (and_parts (nat_le 1 (length (decimal n))) _ (digits_of n (omega arith))).1

joined_fields : (fs : List Octets) → list_all (list_all is_field_octet) fs ≡ true → list_all is_line_octet (join_with_byte 9 fs) ≡ true
joined_fields [] clean = refl
joined_fields (f ∷ []) clean = all_more is_field_octet is_line_octet field_line f (and_parts (list_all is_field_octet f) true clean).0
joined_fields (f ∷ g ∷ fs) clean =
    let both = and_parts (list_all is_field_octet f) _ clean in
    list_all-append is_line_octet f (9 ∷ join_with_byte 9 (g ∷ fs))
    ∙ and_from (list_all is_line_octet f) _ (all_more is_field_octet is_line_octet field_line f both.0) (joined_fields (g ∷ fs) both.1)

pub overview_is : (n : ℕ) (text : Octets) → n ≤ greatest_number → cause Carried text ≡ None
    → (is_overview (overview_line n text) ≡ true) × (list_all is_line_octet (overview_line n text) ≡ true)
overview_is n text within carried = (
  ap is_overview shape ∙ ap are_fields (split_joined 9 (decimal n) shown
      (lists_more is_field_octet (is_other 9) field_other (decimal n ∷ shown) all))
      ∙ and_from (is_number (decimal n)) true (number_of n within) refl,
  ap (list_all is_line_octet) shape ∙ joined_fields (decimal n ∷ shown) all,
)
  where
    shown : List Octets
    shown = overview_field (codes "Subject") text ∷ overview_field (codes "From") text ∷ overview_field (codes "Date") text
        ∷ overview_field (codes "Message-ID") text ∷ overview_field (codes "References") text ∷ decimal (length text)
        ∷ decimal (length (body_lines text)) ∷ []

    size : length text ≤ 262144
    size = carried_size text carried

    count : length (body_lines text) ≤ greatest_number
    count =
        let t = text_is text carried in
        let body : length (body_lines text) ≡ length t.split.body = ap (λ (ls : List Octets). length ls) t.body_is
        ∙ length-map t.split.body line in
        let all : length (lines text) ≡ length t.texts = ap (λ (ls : List Octets). length ls) t.lines_are ∙ length-map t.texts line in
        let parts : length t.texts ≡ length (t.split.headers ++ [] ∷ t.split.body) = ap (λ (ls : List Octets). length ls) t.split.all in
        omega (arith, size, lines_count 0 text, length-append t.split.headers ([] ∷ t.split.body))

    clean : list_all (list_all is_field_octet) shown ≡ true
    clean =
        and_from (list_all is_field_octet (overview_field (codes "Subject") text)) _ (field_clean (codes "Subject") text carried)
        (and_from (list_all is_field_octet (overview_field (codes "From") text)) _ (field_clean (codes "From") text carried)
        (and_from (list_all is_field_octet (overview_field (codes "Date") text)) _ (field_clean (codes "Date") text carried)
        (and_from (list_all is_field_octet (overview_field (codes "Message-ID") text)) _ (field_clean (codes "Message-ID") text carried)
        (and_from (list_all is_field_octet (overview_field (codes "References") text)) _ (field_clean (codes "References") text carried)
        (and_from (list_all is_field_octet (decimal (length text))) _ (number_fields (length text) (omega (arith, size)))
        (and_from (list_all is_field_octet (decimal (length (body_lines text)))) true (number_fields (length (body_lines text)) count)
        refl))))))

    all : list_all (list_all is_field_octet) (decimal n ∷ shown) ≡ true
    all = and_from (list_all is_field_octet (decimal n)) _ (number_fields n within) clean

    shape : overview_line n text ≡ join_with_byte 9 (decimal n ∷ shown)
    shape = simp append_assoc
