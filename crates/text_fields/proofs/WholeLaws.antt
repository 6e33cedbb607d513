-- Whole lines, octet by octet.
use Rattle.std.specs.Prelude.{◌≡◌, ℕ, suc, ◌+◌, ◌-◌, ◌<◌, ◌≤◌, Bool, true, false, not, ◌||◌, ◌&&◌, ◌==◌, nat_eq, cond, List}
use Rattle.std.specs.Prelude.{[], ◌∷◌, length, take, drop, get_or, bytes_eq}
use Rattle.std.specs.List.{ends_with, list_all, onto_first}
use Rattle.std.proofs.Common.{sym, ◌∙◌, ap, refl, arith, eqb, subst}
use Rattle.std.proofs.Math.Bool.{beq}
use Rattle.std.proofs.Math.ListN.{drop_of_length-le}
use Rattle.std.proofs.Math.Seq.{drop-cons}
use Rattle.std.proofs.lemmas.Bool.{and_right, cond-false, eq-eqb, eqb-true, false_from_ne_true, lt-ltb, true≢false}
use Rattle.model.specs.Stream.{Octets, crlf, lines_after}
use Rattle.model.specs.Article.{has_lines_alone, is_whole_line}
use Rattle.model.proofs.Ends.{ends_with-append, ends_with-length}
use Rattle.model.proofs.Stored.{is_plain}
use Rattle.text_fields.specs.Whole.{ends_whole, may_follow}

-- ---- one line

whole-short : (l : Octets) → length l < 2 → is_whole_line l ≡ false
whole-short l short = ap (λ b. b && list_all is_plain (take (length l - 2) l))
    (false_from_ne_true (ends_with nat_eq l crlf) (λ yes. absurd (omega (arith, short, ends_with-length l crlf yes))))

whole-pair : (x y : ℕ) → is_whole_line (x ∷ y ∷ []) ≡ bytes_eq crlf (x ∷ y ∷ [])
whole-pair x y =
    let at : length (x ∷ y ∷ []) - 2 ≡ 0 = omega arith in
    (λ i. bytes_eq crlf (drop (at i) (x ∷ y ∷ [])) && list_all is_plain (take (at i) (x ∷ y ∷ [])))
    ∙ kept (bytes_eq crlf (x ∷ y ∷ []))
  where
    kept : (b : Bool) → (b && true) ≡ b
    kept true = refl
    kept false = refl

whole-more : (x : ℕ) (l : Octets) → 2 ≤ length l → is_whole_line (x ∷ l) ≡ (is_plain x && is_whole_line l)
whole-more x l long =
    let at : length (x ∷ l) - 2 ≡ suc (length l - 2) = omega (arith, long) in
    (λ i. ends_with-append (x ∷ []) l crlf long i && list_all is_plain (take (at i) (x ∷ l)))
    ∙ swapped (ends_with nat_eq l crlf) (is_plain x) (list_all is_plain (take (length l - 2) l))
  where
    swapped : (a b c : Bool) → (a && (b && c)) ≡ (b && (a && c))
    swapped true b c = refl
    swapped false true c = refl
    swapped false false c = refl

-- an octet that is not CR begins no CRLF
no_end : (x : ℕ) (l : Octets) → (x == 13) ≡ false → bytes_eq crlf (x ∷ l) ≡ false
no_end x l other = ap (λ b. b && bytes_eq (10 ∷ []) l)
    (false_from_ne_true (eqb 13 x) (λ yes. true≢false (sym (eq-eqb x 13 (sym (eqb-true 13 x yes))) ∙ other)))

-- a line by its first octet, if that is not CR
whole-first : (x y : ℕ) (l : Octets) → (x == 13) ≡ false → is_whole_line (x ∷ y ∷ l) ≡ (is_plain x && is_whole_line (y ∷ l))
whole-first x y [] other =
    whole-pair x y ∙ no_end x (y ∷ []) other ∙ sym (and_right (is_plain x) (is_whole_line (y ∷ [])) (whole-short (y ∷ []) (omega arith)))
whole-first x y (z ∷ l) other = whole-more x (y ∷ z ∷ l) (omega arith)

-- a line that begins with CR, and does not go on with LF
whole-cr : (y : ℕ) (l : Octets) → (y == 10) ≡ false → is_whole_line (13 ∷ y ∷ l) ≡ false
whole-cr y [] other = whole-pair 13 y ∙ ap (λ b. b && true)
    (false_from_ne_true (eqb 10 y) (λ yes. true≢false (sym (eq-eqb y 10 (sym (eqb-true 10 y yes))) ∙ other)))
whole-cr y (z ∷ l) other = whole-more 13 (y ∷ z ∷ l) (omega arith)

-- ---- the lines of the octets that follow another

begins_line : (before x : ℕ) (rest : Octets) → (l : Octets) × (ls : List Octets) × (lines_after before (x ∷ rest) ≡ (x ∷ l) ∷ ls)
unfolding lines_after
begins_line before x rest = by_test (bytes_eq crlf (before ∷ x ∷ [])) (lines_after x rest) where
  by_test : (b : Bool) (later : List Octets)
      → (l : Octets) × (ls : List Octets) × (cond b ((x ∷ []) ∷ later) (onto_first x later) ≡ (x ∷ l) ∷ ls)
  by_test true later = ([], later, refl)
  by_test false [] = ([], [], refl)
  by_test false (part ∷ parts) = (part, parts, refl)

goes_on : (before x : ℕ) (rest : Octets) → (before == 13) ≡ false → lines_after before (x ∷ rest) ≡ onto_first x (lines_after x rest)
unfolding lines_after
goes_on before x rest other =
    cond-false (bytes_eq crlf (before ∷ x ∷ [])) ((x ∷ []) ∷ lines_after x rest) (onto_first x (lines_after x rest))
    (no_end before (x ∷ []) other)

-- one octet
one : (before x : ℕ) → (before == 13) ≡ false → list_all is_whole_line (lines_after before (x ∷ [])) ≡ ends_whole before (x ∷ [])
unfolding lines_after ends_whole
one before x other =
    ap (list_all is_whole_line) (goes_on before x [] other) ∙ ap (λ b. b && true) (whole-short (x ∷ []) (omega arith))
    ∙ sym (ap (λ b. (not (x == 0) && cond b (x == 10) (not (x == 10))) && (x == 10)) other ∙ never (not (x == 0)) (x == 10))
  where
    never : (a b : Bool) → ((a && not b) && b) ≡ false
    never true true = refl
    never true false = refl
    never false b = refl

-- an octet that is not CR, before others
more : (before x y : ℕ) (rest : Octets) → (before == 13) ≡ false → (x == 13) ≡ false
    → list_all is_whole_line (lines_after before (x ∷ y ∷ rest))
    ≡ (may_follow before x && list_all is_whole_line (lines_after x (y ∷ rest)))
more before x y rest other plain =
    let (l, ls, is) = begins_line x y rest in
    ap (list_all is_whole_line) (goes_on before x (y ∷ rest) other ∙ ap (onto_first x) is)
    ∙ ap (λ b. b && list_all is_whole_line ls) (whole-first x y l plain)
    ∙ joined (is_plain x) (is_whole_line (y ∷ l)) (list_all is_whole_line ls)
    ∙ (λ i. same i && list_all is_whole_line (sym is i))
  where
    joined : (a b c : Bool) → ((a && b) && c) ≡ (a && (b && c))
    joined true b c = refl
    joined false b c = refl

    by_octet : (a b : Bool) → not (a || (b || false)) ≡ (not a && not b)
    by_octet true b = refl
    by_octet false true = refl
    by_octet false false = refl

    same : is_plain x ≡ may_follow before x
    same = ap (λ b. not (x == 0 || (x == 10 || b))) plain ∙ by_octet (x == 0) (x == 10)
        ∙ sym (ap (λ b. not (x == 0) && cond b (x == 10) (not (x == 10))) other)

-- CR before another octet than LF
lone_cr : (before y : ℕ) (rest : Octets) → (before == 13) ≡ false → (y == 10) ≡ false
    → list_all is_whole_line (lines_after before (13 ∷ y ∷ rest)) ≡ ends_whole before (13 ∷ y ∷ rest)
unfolding ends_whole
lone_cr before y rest other no_lf =
    let (l, ls, is) = begins_line 13 y rest in
    ap (list_all is_whole_line) (goes_on before 13 (y ∷ rest) other ∙ ap (onto_first 13) is)
    ∙ ap (λ b. b && list_all is_whole_line ls) (whole-cr y l no_lf)
    ∙ sym (and_right (may_follow before 13) ((not (y == 0) && (y == 10)) && ends_whole y rest)
    (ap (λ b. b && ends_whole y rest) (and_right (not (y == 0)) (y == 10) no_lf)))

-- CRLF, and what follows it
end_of_line : (before : ℕ) (rest : Octets) → (before == 13) ≡ false → list_all is_whole_line (lines_after 10 rest) ≡ ends_whole 10 rest
    → list_all is_whole_line (lines_after before (13 ∷ 10 ∷ rest)) ≡ ends_whole before (13 ∷ 10 ∷ rest)
unfolding lines_after ends_whole
end_of_line before rest other later =
    ap (list_all is_whole_line) (goes_on before 13 (10 ∷ rest) other)
    ∙ ap (λ b. b && list_all is_whole_line (lines_after 10 rest)) (whole-pair 13 10) ∙ later
    ∙ sym (ap (λ b. (true && cond b false true) && ends_whole 10 rest) other)

-- after LF there may be nothing more
after_end : (rest : Octets) → (0 < length rest → list_all is_whole_line (lines_after 10 rest) ≡ ends_whole 10 rest)
    → list_all is_whole_line (lines_after 10 rest) ≡ ends_whole 10 rest
unfolding lines_after ends_whole
after_end [] later = refl
after_end (z ∷ rest) later = later (omega arith)

-- the lines are whole where each octet may follow the one before it
whole_after : (before : ℕ) (text : Octets) → (before == 13) ≡ false → 0 < length text
    → list_all is_whole_line (lines_after before text) ≡ ends_whole before text
unfolding ends_whole
whole_after before [] other some = absurd (omega arith)
whole_after before (x ∷ []) other some = one before x other
whole_after before (x ∷ y ∷ rest) other some =
    by_cr (x == 13) refl (λ is. whole_after x (y ∷ rest) is (omega arith)) (after_end rest (λ some. whole_after 10 rest refl some))
  where
    by_lf : (b : Bool) → (y == 10) ≡ b → list_all is_whole_line (lines_after 10 rest) ≡ ends_whole 10 rest
        → list_all is_whole_line (lines_after before (13 ∷ y ∷ rest)) ≡ ends_whole before (13 ∷ y ∷ rest)
    by_lf true is later =
        subst (λ (y : ℕ). list_all is_whole_line (lines_after before (13 ∷ y ∷ rest)) ≡ ends_whole before (13 ∷ y ∷ rest))
        (sym (eqb-true y 10 is)) (end_of_line before rest other later)
    by_lf false is later = lone_cr before y rest other is

    by_cr : (b : Bool) → (x == 13) ≡ b
        → ((x == 13) ≡ false → list_all is_whole_line (lines_after x (y ∷ rest)) ≡ ends_whole x (y ∷ rest))
        → list_all is_whole_line (lines_after 10 rest) ≡ ends_whole 10 rest
        → list_all is_whole_line (lines_after before (x ∷ y ∷ rest)) ≡ ends_whole before (x ∷ y ∷ rest)
    by_cr true is next later =
        subst (λ (x : ℕ). list_all is_whole_line (lines_after before (x ∷ y ∷ rest)) ≡ ends_whole before (x ∷ y ∷ rest))
        (sym (eqb-true x 13 is)) (by_lf (y == 10) refl later)
    by_cr false is next later = more before x y rest other is ∙ ap (λ b. may_follow before x && b) (next is)

-- a text of whole lines
whole_text : (text : Octets) → ends_whole 0 text ≡ has_lines_alone text
unfolding ends_whole
whole_text [] = refl
whole_text (x ∷ rest) =
    sym (ap (λ b. b && list_all is_whole_line (lines_after 0 (x ∷ rest))) (lt-ltb 0 (length (x ∷ rest)) (omega arith))
    ∙ whole_after 0 (x ∷ rest) refl (omega arith))

-- ---- the loop

-- one octet further
pub whole-step : (is_whole : Bool) (before at : ℕ) (text : Octets) → at < length text
    → (((is_whole && not (get_or text at 0 == 0)) && beq (before == 13) (get_or text at 0 == 10))
    && ends_whole (get_or text at 0) (drop (at + 1) text)) ≡ (is_whole && ends_whole before (drop at text))
unfolding ends_whole
whole-step is_whole before at text within =
    let x = get_or text at 0 in
    let next : at + 1 ≡ suc at = omega arith in
    ap (λ n. ((is_whole && not (x == 0)) && beq (before == 13) (x == 10)) && ends_whole x (drop n text)) next
    ∙ joined is_whole (not (x == 0)) (before == 13) (x == 10) (ends_whole x (drop (suc at) text))
    ∙ ap (λ l. is_whole && ends_whole before l) (sym (drop-cons text at 0 within))
  where
    joined : (w a b c r : Bool) → (((w && a) && beq b c) && r) ≡ (w && ((a && cond b c (not c)) && r))
    joined false a b c r = refl
    joined true false b c r = refl
    joined true true true true r = refl
    joined true true true false r = refl
    joined true true false true r = refl
    joined true true false false r = refl

-- where no octet is left
pub whole-end : (is_whole : Bool) (before at : ℕ) (text : Octets) → length text ≤ at
    → (is_whole && ends_whole before (drop at text)) ≡ ends_whole 0 text → (is_whole && (before == 10)) ≡ has_lines_alone text
unfolding ends_whole
whole-end is_whole before at text past so_far =
    sym (ap (λ l. is_whole && ends_whole before l) (drop_of_length-le text past)) ∙ so_far ∙ whole_text text
