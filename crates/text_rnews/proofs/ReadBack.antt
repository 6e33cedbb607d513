-- A batch is read as the texts that were written, and as no others.
use Rattle.std.proofs.Common.{◌≡◌, ℕ, suc, ◌^◌, ◌<◌, List, [], ◌∷◌, ◌++◌, refl, sym, ◌∙◌, ap, subst, arith, inl, inr, true, length-append}
use Rattle.std.specs.Prelude.{length, drop, map, nat_le, ◌==◌, ◌&&◌, ◌-◌, decimal, All, Some, None, Ok}
use Rattle.std.specs.List.{list_all}
use Rattle.std.specs.Char.{is_ascii_digit}
use Rattle.std.specs.Str.Parse.{AllDigits, digits_value}
use Rattle.std.proofs.lemmas.Bool.{and_from, cases_lt, cond-false, cond-true, le-leb, lt-leb, ne_eqb, not_from_false}
use Rattle.std.proofs.lemmas.List.{append_assoc}
use Rattle.std.proofs.lemmas.List.Folds.{list_all-append}
use Rattle.std.proofs.lemmas.Fmt.{decimal_is_IsNumeral, decimal_nonempty, length-decimal-le}
use Rattle.std.proofs.lemmas.Str.Parse.{digit_from_value}
use Rattle.std.proofs.Math.Seq.{take-append_seam, drop-append_seam}
use Rattle.model.specs.Stream.{Octets, block_limit}
use Rattle.model.specs.Names.{number_of, is_run_of}
use Rattle.text_rnews.specs.Batch.{IsReadAs, Member, Unread, batch, entry, first, header, keyword, member, next, size_in, size_of, split}
use Rattle.text_rnews.specs.Batch.{text as text_member, too_long, whole, without}
use Rattle.text_rnews.specs.Laws.{IsStated}
use Rattle.text_rnews.proofs.Fronts.{first-header, first-wanted, found_not_wanted, is_no_lf, one_found, split-all, split-long}

-- digits are no LF
digits_no_lf : (cs : Octets) → AllDigits 10 cs → list_all is_no_lf cs ≡ true
digits_no_lf [] all = refl
digits_no_lf (c ∷ cs) all =
    let range = digit_from_value c all.0 in
    and_from (is_no_lf c) _ (not_from_false (c == 10) (ne_eqb c 10 (λ is. omega (arith, range.0, range.1)))) (digits_no_lf cs all.1)

are_digits : (cs : Octets) → AllDigits 10 cs → list_all is_ascii_digit cs ≡ true
are_digits [] all = refl
are_digits (c ∷ cs) all =
    let range = digit_from_value c all.0 in
    and_from (is_ascii_digit c) _ (and_from (nat_le 48 c) (nat_le c 57) (le-leb _ _ range.0) (le-leb _ _ range.1)) (are_digits cs all.1)

-- the number that the decimal digits of a size write
number_of-decimal : (size : ℕ) → size < 10 ^ 16 → number_of (decimal size) ≡ Some size
number_of-decimal size short =
    let small : size < 2 ^ 64 = omega (arith, short) in
    let digits = length-decimal-le 16 size (omega arith) short small in
    let some = decimal_nonempty size small in
    let numeral = decimal_is_IsNumeral size small in
    cond-true (nat_le (length (decimal size)) 16 && is_run_of is_ascii_digit (decimal size)) (Some (digits_value 10 (decimal size))) None
    (and_from (nat_le (length (decimal size)) 16) _ (le-leb _ _ digits)
    (and_from (nat_le 1 (length (decimal size))) _ (le-leb _ _ (omega arith)) (are_digits (decimal size) numeral.0.1)))
    ∙ ap (λ n. Some n) numeral.1

size_of-header : (size : ℕ) → size < 10 ^ 16 → size_of (keyword ++ decimal size) ≡ Ok size
size_of-header size short = ap (λ n. size_in n) (number_of-decimal size short)

-- nothing is left to be passed over of a text that is there
without_all : (text rest : Octets) → without (length text) (text ++ rest) ≡ whole rest
without_all text rest =
    let none : length text - length (text ++ rest) ≡ 0 = omega (arith, length-append text rest) in
    ap (λ n. record { over = n; rest = drop (length text) (text ++ rest) }) none
    ∙ ap (λ r. whole r) (drop-append_seam text rest)

split-member : (text rest : Octets) → split (text ++ rest) (Ok (length text)) ≡ Ok (Some (member text, whole rest))
split-member text rest =
    let size = length text in
    elim (cases_lt block_limit size) [
      | inl long ↦
          split-long (text ++ rest) size long
          ∙ ap (λ u. Ok (Some (too_long size, u))) (without_all text rest)
          ∙ ap (λ m. Ok (Some (m, whole rest))) (sym (cond-false (nat_le size block_limit) (text_member text) (too_long size)
          (lt-leb _ _ long)))
      | inr short ↦
          split-all (text ++ rest) size short (omega (arith, length-append text rest))
          ∙ ap (λ t. Ok (Some (text_member t, whole (drop size (text ++ rest))))) (take-append_seam text rest)
          ∙ ap (λ r. Ok (Some (text_member text, whole r))) (drop-append_seam text rest)
          ∙ ap (λ m. Ok (Some (m, whole rest))) (sym (cond-true (nat_le size block_limit) (text_member text) (too_long size)
          (le-leb _ _ short)))
    ]

-- the first member of what begins with a text
first-entry : (text rest : Octets) → IsStated text → first (entry text ++ rest) ≡ Ok (Some (member text, whole rest))
first-entry text rest stated =
    let size = length text in
    let small : size < 2 ^ 64 = omega (arith, stated) in
    let digits = length-decimal-le 16 size (omega arith) stated small in
    ap first (append_assoc (header size) text rest ∙ append_assoc (keyword ++ decimal size) (10 ∷ []) (text ++ rest))
    ∙ first-header (keyword ++ decimal size) (text ++ rest)
    (list_all-append is_no_lf keyword (decimal size) ∙ digits_no_lf (decimal size) (decimal_is_IsNumeral size small).0.1)
    (omega (arith, digits, length-append keyword (decimal size)))
    ∙ ap (split (text ++ rest)) (size_of-header size stated)
    ∙ split-member text rest

pub read_back : (texts : List Octets) → All IsStated texts → IsReadAs (map member texts) (whole (batch texts))
read_back [] stated = refl
read_back (text ∷ texts) stated = (
  whole (batch texts),
  first-entry text (batch texts) (stated 0 text (omega arith)),
  read_back texts
      (λ k d below. stated (suc k) d (omega arith)),
)

-- nothing is read of no octets
no_member : (m : Member) (later : Unread) → next (whole []) ≡ Ok (Some (m, later)) → ⊥
no_member m later is = found_not_wanted (next (whole [])) (m, later) (first-wanted [] (omega arith)) is

pub read_as_one : (members others : List Member) (unread : Unread) → IsReadAs members unread → IsReadAs others unread → members ≡ others
read_as_one [] [] unread end also = refl
read_as_one [] (other ∷ others) unread end also =
    absurd (no_member other also.0 (subst (λ u. next u ≡ Ok (Some (other, also.0))) end also.1))
read_as_one (m ∷ members) [] unread is end = absurd (no_member m is.0 (subst (λ u. next u ≡ Ok (Some (m, is.0))) end is.1))
read_as_one (m ∷ members) (other ∷ others) unread is also =
    let same = one_found (next unread) (m, is.0) (other, also.0) is.1 also.1 in
    let later = read_as_one members others is.0 is.2 (subst (IsReadAs others) (sym (ap (λ (p : Member × Unread). p.1) same)) also.2) in
    ap (λ n. n ∷ members) (ap (λ (p : Member × Unread). p.0) same) ∙ ap (λ ms. other ∷ ms) later
