-- The words of a line, from its start.
use Rattle.std.specs.Prelude.{◌≡◌, ℕ, zero, suc, ◌<◌, true, false, nat_lt, List, [], ◌∷◌, length, take, drop, get_or, filter, Option, Some}
use Rattle.std.specs.Prelude.{None, unwrap_or}
use Rattle.std.specs.List.{slice_split}
use Rattle.std.proofs.Common.{◌∙◌, ap, sym, refl, arith, drop-cons}
use Rattle.std.proofs.lemmas.Bool.{cond-true, lt-ltb, false_from_ne_true, true≢false}
use Rattle.std.proofs.lemmas.List.{take_all, drop_all, length-take-le}
use Rattle.std.proofs.lemmas.List.Splits.{slice_split-cons_yes}
use Rattle.memchr.specs.Find.{IsFirst, Nowhere, Passes, is_byte2}
use Rattle.bstr.specs.Bytes.{not_in}
use Rattle.model.specs.Commands.{words}
use Rattle.model.specs.Names.{begins, is_blank}
use Rattle.text_names.proofs.BlankLaws.{blanks, inside, outside}
use Rattle.text_names.proofs.PartLaws.{cut_at, uncut}

-- what is no empty part
abbrev filled : List (List ℕ) → List (List ℕ)
filled parts = filter (λ word. nat_lt 0 (length word)) parts

-- a blank at the start changes nothing
pub words-blank : (x : ℕ) (line : List ℕ) → is_blank x ≡ true → words (x ∷ line) ≡ words line
words-blank x line is = ap filled (slice_split-cons_yes is_blank x line is)

-- nor do the blanks before the first octet that is not blank
pub words-skipped : (line : List ℕ) (at : ℕ) → at < length line → Nowhere (Passes (not_in blanks) line) 0 at
    → words (drop at line) ≡ words line
words-skipped [] at within before = absurd (omega arith)
words-skipped (x ∷ line) zero within before = refl
words-skipped (x ∷ line) (suc at) within before =
    words-skipped line at (omega arith) (λ k low below. before (suc k) (omega arith) (omega arith))
    ∙ sym (words-blank x line (inside x (before 0 (omega arith) (omega arith))))

pub begins-skipped : (line : List ℕ) (at : ℕ) → at < length line → Passes (not_in blanks) line at → begins is_blank (drop at line) ≡ false
begins-skipped line at within found = ap (begins is_blank) (drop-cons line at 0 within) ∙ outside (get_or line at 0) found

-- a line of blanks has no words
pub words-none : (line : List ℕ) → Nowhere (Passes (not_in blanks) line) 0 (length line) → words [] ≡ words line
words-none [] none = refl
words-none (x ∷ line) none =
    words-none line (λ k low below. none (suc k) (omega arith) (omega arith))
    ∙ sym (words-blank x line (inside x (none 0 (omega arith) (omega arith))))

filled-word : (word : List ℕ) (parts : List (List ℕ)) → 0 < length word → filled (word ∷ parts) ≡ word ∷ filled parts
filled-word word parts some = cond-true (nat_lt 0 (length word)) (word ∷ filled parts) (filled parts) (lt-ltb 0 (length word) some)

-- the first word ends at the first blank
pub words-cut : (line : List ℕ) (end : ℕ) → 0 < end → end < length line → is_blank (get_or line end 0) ≡ true
    → ((k : ℕ) → k < end → is_blank (get_or line k 0) ≡ false) → words line ≡ take end line ∷ words (drop end line)
words-cut line end some within is none =
    ap filled (cut_at is_blank line end within is none)
    ∙ filled-word (take end line) (slice_split is_blank (drop (suc end) line)) (omega (arith, length-take-le end line))
    ∙ ap (λ l. take end line ∷ l) (sym (ap words (drop-cons line end 0 within) ∙ words-blank (get_or line end 0) (drop (suc end) line) is))

-- without a blank, the first word is the whole line
pub words-uncut : (line : List ℕ) → 0 < length line → ((k : ℕ) → k < length line → is_blank (get_or line k 0) ≡ false)
    → words line ≡ take (length line) line ∷ words (drop (length line) line)
words-uncut line some none =
    ap filled (uncut is_blank line none)
    ∙ filled-word line [] some
    ∙ ap (λ l. l ∷ []) (sym (take_all (length line) line (omega arith)))
    ∙ ap (λ l. take (length line) line ∷ l) (sym (ap words (drop_all (length line) line (omega arith))))

-- the first word of a line that doesn't begin with a blank ends at the blank that was found, or with the line
pub words-found : (line : List ℕ) → 0 < length line → begins is_blank line ≡ false → (found : Option ℕ)
    → IsFirst (Passes (is_byte2 32 9) line) 0 (length line) found →
    words line ≡ take (unwrap_or found (length line)) line ∷ words (drop (unwrap_or found (length line)) line)
words-found line some plain None none =
    words-uncut line some (λ k within. false_from_ne_true (is_blank (get_or line k 0)) (none k (omega arith) within))
words-found [] some plain (Some end) first = absurd (omega arith)
words-found (x ∷ line) some plain (Some zero) first = absurd (true≢false (sym first.1 ∙ plain))
words-found (x ∷ line) some plain (Some (suc end)) first =
    words-cut (x ∷ line) (suc end) (omega arith) first.0.high first.1
    (λ k below. false_from_ne_true (is_blank (get_or (x ∷ line) k 0)) (first.0.before k (omega arith) below))
