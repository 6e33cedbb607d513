-- The cause of a text, by its lines and then by its fields.
use Rattle.std.specs.Prelude.{◌≡◌, ℕ, ◌+◌, Bool, true, false, not, ◌&&◌, nat_le, cond, [], ◌∷◌, ◌++◌, length, codes, Option, Some}
use Rattle.std.specs.Prelude.{None, IsTrue}
use Rattle.std.specs.Option.{option_or}
use Rattle.std.proofs.Common.{sym, ◌∙◌, ap, refl}
use Rattle.std.proofs.lemmas.List.{length-append, length-take-le}
use Rattle.model.specs.Stream.{Octets}
use Rattle.model.specs.declared.cause.Cause.{Cause}
use Rattle.model.specs.declared.cause.Cause.TheVariants.{Octets as NotLines, NoEnd, Field, Twice, Missing, Id, Groups, Long}
use Rattle.model.specs.Article.{Origin, Posted, Carried, as_stored, cause, cause_but_long, content, fields, first_cause, has_empty_line}
use Rattle.model.specs.Article.{has_fields_alone, has_lines_alone, header, header_lines, is_short as is_short_text}
use Rattle.model.proofs.Stored.{header_stored}
use Rattle.text_fields.specs.Header.{IsHeader}
use Rattle.text_article.specs.Origins.{HasSmallSerial, names_host}
use Rattle.text_article.specs.Causes.{field_cause, front_for, has_good_groups, has_good_id, has_twice, is_short, lacks_field}
use Rattle.text_article.specs.Causes.{shape_cause}
use Rattle.text_article.specs.Parts.{ArePartsOf}
use Rattle.text_article.specs.declared.plain_parts.Parts.{Parts}

-- the text as it would be stored, by what is put before it
stored_header : (origin : Origin) (text : Octets) → IsTrue (names_host origin) → HasSmallSerial origin
    → header (as_stored origin text) ≡ front_for origin (fields text) ++ header text
stored_header (Posted host serial) text good small = header_stored host text serial 0 good small
stored_header Carried text good small = refl

stored_text : (origin : Origin) (text : Octets) → as_stored origin text ≡ front_for origin (fields text) ++ text
stored_text (Posted host serial) text = refl
stored_text Carried text = refl

short_same : (origin : Origin) (text : Octets) → IsTrue (names_host origin) → HasSmallSerial origin
    → is_short_text (as_stored origin text) ≡ is_short (length (header text)) (length text) (length (front_for origin (fields text)))
short_same origin text good small =
    ap (λ h. nat_le (length h) 8_192 && nat_le (length (as_stored origin text)) 262_144) (stored_header origin text good small)
    ∙ ap (λ n. nat_le n 8_192 && nat_le (length (as_stored origin text)) 262_144)
    (length-append (front_for origin (fields text)) (header text))
    ∙ ap (λ t. nat_le (length (front_for origin (fields text)) + length (header text)) 8_192 && nat_le (length t) 262_144)
    (stored_text origin text)
    ∙ ap (λ n. nat_le (length (front_for origin (fields text)) + length (header text)) 8_192 && nat_le n 262_144)
    (length-append (front_for origin (fields text)) text)

abbrev first_three : Bool → Bool → Bool → Option Cause
first_three a b c = first_cause ((a, NotLines) ∷ (b, NoEnd) ∷ (c, Field) ∷ [])

abbrev all_eight : Bool → Bool → Bool → Bool → Bool → Bool → Bool → Bool → Option Cause
all_eight a b c d e f g h = option_or
    (first_cause ((a, NotLines) ∷ (b, NoEnd) ∷ (c, Field) ∷ (d, Twice) ∷ (e, Missing) ∷ (f, Id) ∷ (g, Groups) ∷ []))
    (cond h None (Some Long))

lines_first : (a b c d e f g h : Bool) (x : Cause) → first_three a b c ≡ Some x → all_eight a b c d e f g h ≡ Some x
lines_first true b c d e f g h x is = is
lines_first false true c d e f g h x is = is
lines_first false false true d e f g h x is = is
lines_first false false false d e f g h x is = absurd (cc)

fields_then : (a b c d e f g h : Bool) → first_three a b c ≡ None
    → all_eight a b c d e f g h ≡ first_cause ((d, Twice) ∷ (e, Missing) ∷ (f, Id) ∷ (g, Groups) ∷ (not h, Long) ∷ [])
fields_then true b c d e f g h is = absurd (cc)
fields_then false true c d e f g h is = absurd (cc)
fields_then false false true d e f g h is = absurd (cc)
fields_then false false false true e f g h is = refl
fields_then false false false false true f g h is = refl
fields_then false false false false false true g h is = refl
fields_then false false false false false false true h is = refl
fields_then false false false false false false false true is = refl
fields_then false false false false false false false false is = refl

-- a cause of the lines is the first
pub cause-lines : (origin : Origin) (text : Octets) (x : Cause) → shape_cause text ≡ Some x → cause origin text ≡ Some x
unfolding cause cause_but_long
cause-lines origin text x is =
    lines_first (not (has_lines_alone text)) (not (has_empty_line text)) (not (has_fields_alone (header_lines text)))
    (has_twice (fields text)) (lacks_field origin (fields text))
    (not (has_good_id origin (fields text))) (not (has_good_groups (content (codes "Newsgroups") text)))
    (is_short_text (as_stored origin text)) x is

-- then those of the fields follow
pub cause-fields : (origin : Origin) (text : Octets) (n added : ℕ) (short : Bool)
    → IsTrue (names_host origin) → HasSmallSerial origin → shape_cause text ≡ None
    → IsHeader text n → added ≡ length (front_for origin (fields text)) → short ≡ is_short n (length text) added
    → field_cause origin (fields text) (has_good_groups (content (codes "Newsgroups") text)) short ≡ cause origin text
unfolding cause cause_but_long
cause-fields origin text n added short good small none at size is =
    let length_header : length (header text) ≡ n = ap length at.header ∙ length-take-le n text at.within in
    let brief : short ≡ is_short_text (as_stored origin text) =
    is ∙ ap (is_short n (length text)) size
    ∙ ap (λ k. is_short k (length text) (length (front_for origin (fields text)))) (sym length_header)
    ∙ sym (short_same origin text good small) in
    ap (λ s. field_cause origin (fields text) (has_good_groups (content (codes "Newsgroups") text)) s) brief
    ∙ sym (fields_then (not (has_lines_alone text)) (not (has_empty_line text)) (not (has_fields_alone (header_lines text)))
    (has_twice (fields text)) (lacks_field origin (fields text))
    (not (has_good_id origin (fields text))) (not (has_good_groups (content (codes "Newsgroups") text)))
    (is_short_text (as_stored origin text)) none)

-- the cause of a text whose lines have none, from its parts
pub cause-parts : (origin : Origin) (text : Octets) (parts : Parts) (n added : ℕ) (short : Bool)
    → IsTrue (names_host origin) → HasSmallSerial origin → ArePartsOf text parts
    → IsHeader text n → added ≡ length (front_for origin (fields text)) → short ≡ is_short n (length text) added
    → field_cause origin (fields text) parts.faults.good_groups short ≡ cause origin text
cause-parts origin text parts n added short good small said at size is =
    ap (λ g. field_cause origin (fields text) g short) said.groups
    ∙ cause-fields origin text n added short good small said.shape at size is

-- a text whose lines have no cause has an empty line
pub shape-ends : (text : Octets) → shape_cause text ≡ None → has_empty_line text ≡ true
shape-ends text none = by_tests (has_lines_alone text) (has_empty_line text) (has_fields_alone (header_lines text)) none where
  by_tests : (a b c : Bool) → first_three (not a) (not b) (not c) ≡ None → b ≡ true
  by_tests false b c is = absurd (cc)
  by_tests true true c is = refl
  by_tests true false c is = absurd (cc)
