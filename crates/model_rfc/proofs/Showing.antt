-- OVER's line is what the RFC makes of the lines that ARTICLE sends.
use Rattle.std.proofs.Common.{◌≡◌, ℕ, zero, suc, ◌+◌, ◌<◌, ◌≤◌, List, [], ◌∷◌, ◌++◌, map, take, drop, refl, sym, ◌∙◌, ap, subst, arith}
use Rattle.std.proofs.Common.{Bool, true, false, cond, ◌&&◌, ◌||◌, not, inl, inr}
use Rattle.std.proofs.Common.{append-nil, append_assoc, one-add}
use Rattle.std.specs.Prelude.{None, Option, find, flat_map, length, bytes_eq, codes, decimal, option_map, unwrap_or, ◌==◌, nat_lt}
use Rattle.std.specs.Prelude.{if◌then◌else◌, Some}
use Rattle.std.specs.List.{concat, list_all, join_with_byte, onto_first, prefix_len, take_while}
use Rattle.std.specs.Str.{str_eq_ignore_ascii_case}
use Rattle.std.proofs.lemmas.Bool.{false≢true, and_parts, and_from, or_cases, eqb-true}
use Rattle.std.proofs.lemmas.List.{drop_at, length-append, length-take-le, length-map}
use Rattle.std.proofs.lemmas.List.Folds.{flat_map-map}
use Rattle.std.proofs.lemmas.List.Sums.{take_while-cons}
use Rattle.model.specs.Stream.{Octets, crlf, line, lines, lines_after}
use Rattle.model.specs.Names.{begins, is_blank}
use Rattle.model.specs.Article.{Carried, begins_field, body_lines, cause, content, content_of, continues, fields, fields_of_lines}
use Rattle.model.specs.Article.{has_fields_alone, header_lines, is_named, line_text, name_of, onto_field, overview_field, overview_line}
use Rattle.model.specs.Article.{unfolded}
use Rattle.model.proofs.HoldsOne.{carried_cause}
use Rattle.model.proofs.Ids.{no_cause}
use Rattle.model_rfc.specs.Commands.{begins_blank}
use Rattle.model_rfc.specs.Contents.{size_before}
use Rattle.model_rfc.specs.Grammar.{is_line_octet}
use Rattle.model_rfc.specs.Overviews as rfc
use Rattle.model_rfc.specs.Overviews.{header_content, header_name, octet_count, overview_of}
use Rattle.model_rfc.proofs.Blocks.{lines_of}
use Rattle.model_rfc.proofs.Overviews.{AllClean, all_kept, drop_clean, drop_within, is_named_octet, name_within, prefix_short}
use Rattle.model_rfc.proofs.Texts.{IsText, text_is}

-- ---- the name and the content of a field are those of the line that begins it

prefix_kept : (l more : Octets) → prefix_len is_named_octet (l ++ more) < length l
    → prefix_len is_named_octet (l ++ more) ≡ prefix_len is_named_octet l
prefix_kept [] more within = absurd (omega arith)
prefix_kept (x ∷ l) more within = by_test (is_named_octet x) within (prefix_kept l more) where
  by_test : (b : Bool) → cond b (1 + prefix_len is_named_octet (l ++ more)) 0 < suc (length l)
      → (prefix_len is_named_octet (l ++ more) < length l → prefix_len is_named_octet (l ++ more) ≡ prefix_len is_named_octet l)
      → cond b (1 + prefix_len is_named_octet (l ++ more)) 0 ≡ cond b (1 + prefix_len is_named_octet l) 0
  by_test true within later = ap (λ n. 1 + n) (later (omega arith))
  by_test false within later = refl

take_within : (n : ℕ) (l more : Octets) → n ≤ length l → take n (l ++ more) ≡ take n l
take_within zero l more within = refl
take_within (suc n) [] more within = absurd (omega arith)
take_within (suc n) (x ∷ l) more within = ap (λ s. x ∷ s) (take_within n l more (omega arith))

-- where the colon stands
colon : (l more : Octets) → begins_field (line l) ≡ true
    → (prefix_len is_named_octet (line l ++ more) ≡ size_before 58 l) × (size_before 58 l + 2 ≤ length l)
colon l more begin =
    let whole : length (name_of (line l ++ more)) ≡ prefix_len is_named_octet (line l ++ more) =
    length-take-le (prefix_len is_named_octet (line l ++ more)) (line l ++ more) (prefix_short (line l ++ more)) in
    let same : prefix_len is_named_octet (line l ++ more) ≡ prefix_len is_named_octet (l ++ (crlf ++ more)) =
    ap (prefix_len is_named_octet) (append_assoc l crlf more) in
    let within = name_within l more begin in
    let kept = prefix_kept l (crlf ++ more) (omega (arith, whole, same, within)) in
    (same ∙ kept, omega (arith, whole, same, within, kept))

named_so : (l more : Octets) → begins_field (line l) ≡ true → name_of (line l ++ more) ≡ header_name l
named_so l more begin =
    let at = colon l more begin in
    ap (λ n. take n (line l ++ more)) at.0 ∙ ap (take (size_before 58 l)) (append_assoc l crlf more)
    ∙ take_within (size_before 58 l) l (crlf ++ more) (omega (arith, at.1))

unfolded_are : (ls : List Octets) → AllClean ls → unfolded (concat (map line ls)) ≡ concat ls
unfolded_are ls clean = ap (flat_map line_text) (lines_of ls clean) ∙ all_kept ls

contained : (l : Octets) (others : List Octets) → AllClean (l ∷ others) → begins_field (line l) ≡ true
    → content_of (line l ++ concat (map line others)) ≡ drop (size_before 58 l + 2) l ++ concat others
contained l others clean begin =
    let rest : Octets = concat (map line others) in
    let at = colon l rest begin in
    let n : ℕ = size_before 58 l + 2 in
    let both = and_parts (list_all is_line_octet l) (list_all (list_all is_line_octet) others) clean in
    let whole : length (name_of (line l ++ rest)) ≡ prefix_len is_named_octet (line l ++ rest) =
    length-take-le (prefix_len is_named_octet (line l ++ rest)) (line l ++ rest) (prefix_short (line l ++ rest)) in
    ap (λ k. unfolded (drop (k + 2) (line l ++ rest))) (whole ∙ at.0)
    ∙ ap (λ g. unfolded g)
    (ap (drop n) (append_assoc l crlf rest) ∙ drop_within n l (crlf ++ rest) at.1 ∙ sym (append_assoc (drop n l) crlf rest))
    ∙ unfolded_are (drop n l ∷ others) (and_from (list_all is_line_octet (drop n l)) _ (drop_clean n l both.0) both.1)

-- ---- the first field of a name

-- what begins with a blank has another name
abbrev Plain : Octets → Type 0
Plain name = (x : ℕ) (l : Octets) → is_blank x ≡ true → str_eq_ignore_ascii_case (x ∷ l) name ≡ false

no_colon : (x : ℕ) → is_blank x ≡ true → (x == 58) ≡ false
no_colon x blank = elim (or_cases (x == 32) (x == 9) blank) [
  | inl space ↦ ap (λ y. y == 58) (eqb-true x 32 space)
  | inr tab ↦ ap (λ y. y == 58) (eqb-true x 9 tab)
]

blank_other : (name : Octets) → Plain name → (l : Octets) → begins_blank l ≡ true → str_eq_ignore_ascii_case (header_name l) name ≡ false
blank_other name plain [] blank = absurd (false≢true blank)
blank_other name plain (x ∷ l) blank =
    ap (λ b. str_eq_ignore_ascii_case (take (cond (not b) (1 + prefix_len is_named_octet l) 0) (x ∷ l)) name) (no_colon x blank)
    ∙ ap (λ s. str_eq_ignore_ascii_case s name) (more (prefix_len is_named_octet l))
    ∙ plain x (take (prefix_len is_named_octet l) l) blank
  where
    more : (k : ℕ) → take (1 + k) (x ∷ l) ≡ x ∷ take k l
    more k = rw one-add refl

blank_line : (l : Octets) → begins is_blank (line l) ≡ begins_blank l
blank_line [] = refl
blank_line (x ∷ l) = refl

front_clean : (n : ℕ) (ls : List Octets) → AllClean ls → AllClean (take n ls)
front_clean zero ls clean = refl
front_clean (suc n) [] clean = refl
front_clean (suc n) (l ∷ ls) clean =
    let both = and_parts (list_all is_line_octet l) (list_all (list_all is_line_octet) ls) clean in
    and_from (list_all is_line_octet l) _ both.0 (front_clean n ls both.1)

-- the lines that go on with a header
abbrev later_lines : List Octets → List Octets
later_lines ls = take_while begins_blank ls

abbrev content_in : Octets → List Octets → Octets
content_in name fs = unwrap_or (option_map content_of (find (is_named name) fs)) []

-- the first field of lines, and what is found in the others
record IsCut (name l : Octets) (later : List Octets) : Type 0 where
  pub others : List Octets
  pub fields_are : fields_of_lines (map line (l ∷ later)) ≡ (line l ++ concat (map line (later_lines later))) ∷ others
  pub found : content_in name others ≡ header_content name later

first_found : (name l : Octets) (others later : List Octets) → AllClean (l ∷ later_lines later) → begins_field (line l) ≡ true
    → content_in name others ≡ header_content name later
    → content_in name ((line l ++ concat (map line (later_lines later))) ∷ others) ≡ header_content name (l ∷ later)
unfolding header_content
first_found name l others later clean begin found =
    ap (λ s. unwrap_or (option_map content_of (cond (str_eq_ignore_ascii_case s name) (Some f) (find (is_named name) others))) [])
    (named_so l (concat (map line (later_lines later))) begin)
    ∙ by_name (str_eq_ignore_ascii_case (header_name l) name)
  where
    f : Octets
    f = line l ++ concat (map line (later_lines later))

    by_name : (b : Bool) → unwrap_or (option_map content_of (cond b (Some f) (find (is_named name) others))) []
        ≡ cond b (drop (size_before 58 l + 2) l ++ concat (later_lines later)) (header_content name later)
    by_name true = contained l (later_lines later) clean begin
    by_name false = found

abbrev ContinueOrBegin : List Octets → Type 0
ContinueOrBegin ls = list_all (λ w. begins is_blank w || begins_field w) (map line ls) ≡ true

cut : (name : Octets) → Plain name → (l : Octets) (later : List Octets) → AllClean later → ContinueOrBegin later → IsCut name l later
unfolding fields_of_lines header_content
cut name plain l [] clean good = record { others = []; fields_are = ap (λ f. f ∷ []) (sym (append-nil (line l))); found = refl }
cut name plain l (m ∷ later) clean good =
    let both = and_parts (list_all is_line_octet m) (list_all (list_all is_line_octet) later) clean in
    let passes = and_parts (begins is_blank (line m) || begins_field (line m)) _ good in
    by_blank (begins_blank m) refl (cut name plain m later both.1 passes.1) both.0 both.1 passes.0
  where
    fs : List Octets
    fs = fields_of_lines (map line (m ∷ later))

    by_blank : (b : Bool) → begins_blank m ≡ b → IsCut name m later → list_all is_line_octet m ≡ true → AllClean later
        → (begins is_blank (line m) || begins_field (line m)) ≡ true → IsCut name l (m ∷ later)
    by_blank true blank rest clean_m clean_later passes = record {
      others = rest.others;
      fields_are =
          ap (λ b. cond b (onto_field (line l) fs) (line l ∷ fs)) (blank_line m ∙ blank) ∙ ap (onto_field (line l)) rest.fields_are
          ∙ ap (λ (ls : List Octets). (line l ++ concat (map line ls)) ∷ rest.others)
          (sym (take_while-cons begins_blank m later ∙ ap (λ b. cond b (m ∷ later_lines later) []) blank));
      found =
          rest.found
          ∙ sym (ap (λ b. cond b (drop (size_before 58 m + 2) m ++ concat (later_lines later)) (header_content name later))
          (blank_other name plain m blank));
    }
    by_blank false named rest clean_m clean_later passes = record {
      others = (line m ++ concat (map line (later_lines later))) ∷ rest.others;
      fields_are =
          ap (λ b. cond b (onto_field (line l) fs) (line l ∷ fs)) (blank_line m ∙ named)
          ∙ ap (λ (gs : List Octets). line l ∷ gs) rest.fields_are
          ∙ ap (λ s. s ∷ (line m ++ concat (map line (later_lines later))) ∷ rest.others) (sym (append-nil (line l)))
          ∙ ap (λ (ls : List Octets). (line l ++ concat (map line ls)) ∷ (line m ++ concat (map line (later_lines later))) ∷ rest.others)
          (sym (take_while-cons begins_blank m later ∙ ap (λ b. cond b (m ∷ later_lines later) []) named));
      found =
          first_found name m rest.others later
          (and_from (list_all is_line_octet m) _ clean_m (front_clean (prefix_len begins_blank later) later clean_later))
          (sym (ap (λ b. b || begins_field (line m)) (blank_line m ∙ named)) ∙ passes) rest.found;
    }

found_so : (name : Octets) → Plain name → (ls : List Octets) → AllClean ls → has_fields_alone (map line ls) ≡ true
    → content_in name (fields_of_lines (map line ls)) ≡ header_content name ls
unfolding fields_of_lines header_content
found_so name plain [] clean good = refl
found_so name plain (l ∷ ls) clean good =
    let both = and_parts (list_all is_line_octet l) (list_all (list_all is_line_octet) ls) clean in
    let passes = and_parts (begins_field (line l)) _ good in
    let first = cut name plain l ls both.1 passes.1 in
    ap (content_in name) first.fields_are
    ∙ first_found name l first.others ls
    (and_from (list_all is_line_octet l) _ both.0 (front_clean (prefix_len begins_blank ls) ls both.1)) passes.0 first.found

-- ---- the overview of an article

shown_field : (name text : Octets) → Plain name → (carried : cause Carried text ≡ None)
    → overview_field name text
    ≡ map (λ x. if x == 9 then 32 else x) (header_content name (rfc.header_lines (text_is text carried).texts))
shown_field name text plain carried =
    let t = text_is text carried in
    ap (map (λ x. if x == 9 then 32 else x))
    (ap (λ (hs : List Octets). content_in name (fields_of_lines hs)) t.header_is
    ∙ found_so name plain t.split.headers t.split.clean_headers
    (sym (ap has_fields_alone t.header_is) ∙ (no_cause Carried text (carried_cause text carried)).fields_alone)
    ∙ ap (header_content name) (sym t.split.before))

onto_joined : (x : ℕ) (ls : List Octets) → concat (onto_first x ls) ≡ x ∷ concat ls
onto_joined x [] = refl
onto_joined x (l ∷ ls) = refl

-- a text is its lines, joined
joined : (before : ℕ) (text : Octets) → concat (lines_after before text) ≡ text
unfolding lines_after
joined before [] = refl
joined before (x ∷ rest) = by_end (bytes_eq crlf (before ∷ x ∷ [])) (joined x rest) where
  by_end : (b : Bool) → concat (lines_after x rest) ≡ rest
      → concat (cond b ((x ∷ []) ∷ lines_after x rest) (onto_first x (lines_after x rest))) ≡ x ∷ rest
  by_end true same = ap (λ s. x ∷ s) same
  by_end false same = onto_joined x (lines_after x rest) ∙ ap (λ s. x ∷ s) same

with_ends : (ls : List Octets) → concat (map line ls) ≡ flat_map (λ l. l ++ crlf) ls
with_ends [] = refl
with_ends (l ∷ ls) = ap (λ s. line l ++ s) (with_ends ls)

pub text_joined : (text : Octets) (carried : cause Carried text ≡ None) → text ≡ flat_map (λ l. l ++ crlf) (text_is text carried).texts
text_joined text carried =
    let t = text_is text carried in
    sym (joined 0 text) ∙ ap (λ (ls : List Octets). concat ls) t.lines_are ∙ with_ends t.texts

octets_are : (text : Octets) (carried : cause Carried text ≡ None) → length text ≡ octet_count (text_is text carried).texts
octets_are text carried = ap (λ (s : Octets). length s) (text_joined text carried)

pub body_is : (ls hs bs : List Octets) → ls ≡ hs ++ [] ∷ bs → rfc.header_lines ls ≡ hs → rfc.body_lines ls ≡ bs
body_is ls hs bs all front =
    ap (λ (fs : List Octets). drop (length fs + 1) ls) front ∙ ap (drop (length hs + 1)) (all ∙ sym (append_assoc hs ([] ∷ []) bs))
    ∙ drop_at (hs ++ [] ∷ []) bs (length hs + 1) (length-append hs ([] ∷ []))

body_count : (text : Octets) (carried : cause Carried text ≡ None)
    → length (body_lines text) ≡ length (rfc.body_lines (text_is text carried).texts)
body_count text carried =
    let t = text_is text carried in
    ap (λ (ls : List Octets). length ls) t.body_is ∙ length-map t.split.body line
    ∙ ap (λ (ls : List Octets). length ls) (sym (body_is t.texts t.split.headers t.split.body t.split.all t.split.before))

plain_of : (name : Octets) → ((l : Octets) → str_eq_ignore_ascii_case (32 ∷ l) name ≡ false)
    → ((l : Octets) → str_eq_ignore_ascii_case (9 ∷ l) name ≡ false) → Plain name
plain_of name space tab x l blank = elim (or_cases (x == 32) (x == 9) blank) [
  | inl is ↦ ap (λ y. str_eq_ignore_ascii_case (y ∷ l) name) (eqb-true x 32 is) ∙ space l
  | inr is ↦ ap (λ y. str_eq_ignore_ascii_case (y ∷ l) name) (eqb-true x 9 is) ∙ tab l
]

abbrev row_of : ℕ → Octets → Octets → Octets → Octets → Octets → ℕ → ℕ → Octets
row_of n subject author date id references octets count =
    join_with_byte 9 (decimal n ∷ subject ∷ author ∷ date ∷ id ∷ references ∷ decimal octets ∷ decimal count ∷ [])

in_a_row : (n : ℕ) (text : Octets)
    → overview_line n text
    ≡ row_of n (overview_field (codes "Subject") text) (overview_field (codes "From") text) (overview_field (codes "Date") text)
    (overview_field (codes "Message-ID") text) (overview_field (codes "References") text) (length text) (length (body_lines text))
in_a_row n text = simp append_assoc

same_row : (n octets octets' count count' : ℕ) (a a' b b' c c' d d' e e' : Octets) → a ≡ a' → b ≡ b' → c ≡ c' → d ≡ d' → e ≡ e'
    → octets ≡ octets' → count ≡ count' → row_of n a b c d e octets count ≡ row_of n a' b' c' d' e' octets' count'
same_row n octets octets' count count' a a' b b' c c' d d' e e' p q r s t u v = cc

pub overview_is_shown : (n : ℕ) (text : Octets) (carried : cause Carried text ≡ None)
    → overview_line n text ≡ overview_of n (text_is text carried).texts
overview_is_shown n text carried =
    in_a_row n text
    ∙ same_row n _ _ _ _ _ _ _ _ _ _ _ _ _ _
    (shown_field (codes "Subject") text (plain_of (codes "Subject") (λ l. refl) (λ l. refl)) carried)
    (shown_field (codes "From") text (plain_of (codes "From") (λ l. refl) (λ l. refl)) carried)
    (shown_field (codes "Date") text (plain_of (codes "Date") (λ l. refl) (λ l. refl)) carried)
    (shown_field (codes "Message-ID") text (plain_of (codes "Message-ID") (λ l. refl) (λ l. refl)) carried)
    (shown_field (codes "References") text (plain_of (codes "References") (λ l. refl) (λ l. refl)) carried)
    (octets_are text carried) (body_count text carried)
