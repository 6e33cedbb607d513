-- Line ends of texts of lines.
use Rattle.std.proofs.Common.{◌≡◌, ℕ, suc, ◌+◌, ◌<◌, ◌≤◌, List, [], ◌∷◌, ◌++◌, refl, sym, ◌∙◌, ap, arith, Bool, true, false, cond, add-one}
use Rattle.std.proofs.Common.{drop-cons}
use Rattle.std.specs.Prelude.{not, ◌==◌, ◌&&◌, flat_map, All, length, drop, get_or}
use Rattle.std.specs.List.{list_all}
use Rattle.std.proofs.lemmas.Bool.{and_parts, and_left, not-true, not_from_false, cond-false, cond-true}
use Rattle.std.proofs.lemmas.List.{append_assoc}
use Rattle.std.proofs.Math.ListN.{drop_of_length-le}
use Rattle.model.specs.Stream.{Octets, crlf, line}
use Rattle.model.specs.Names.{begins}
use Rattle.text_rnews.specs.LineEnds.{with_cr, with_lf, with_crlf, with_crlf_after, IsLine, lf_line}

abbrev is_inner : ℕ → Bool
is_inner x = not (x == 10) && not (x == 13)

-- a line, and what follows it
with_lf-line : (text rest : Octets) → list_all is_inner text ≡ true → with_lf (text ++ crlf ++ rest) ≡ text ++ 10 ∷ with_lf rest
unfolding with_lf
with_lf-line [] rest inner = refl
with_lf-line (x ∷ text) rest inner =
    let both = and_parts (is_inner x) (list_all is_inner text) inner in
    let no_cr = not-true (x == 13) (and_parts (not (x == 10)) (not (x == 13)) both.0).1 in
    ap (λ front. front ++ with_lf (text ++ crlf ++ rest)) (cond-false (x == 13 && begins (λ y. y == 10) (text ++ crlf ++ rest)) []
    (x ∷ []) (and_left (x == 13) _ no_cr))
    ∙ ap (λ later. x ∷ later) (with_lf-line text rest both.1)

pub lines_get_lf : (lines : List Octets) → All IsLine lines → with_lf (flat_map line lines) ≡ flat_map lf_line lines
unfolding with_lf
lines_get_lf [] are = refl
lines_get_lf (text ∷ lines) are =
    with_lf-line text (flat_map line lines) (are 0 text (omega arith))
    ∙ ap (λ later. text ++ 10 ∷ later) (lines_get_lf lines (λ k d below. are (suc k) d (omega arith)))
    ∙ sym (append_assoc text (10 ∷ []) (flat_map lf_line lines))

-- an octet that is no LF stays
same : (before x : ℕ) → (x == 10) ≡ false → with_cr before x ≡ x ∷ []
same before x no_lf = cond-false (x == 10 && not (before == 13)) _ _ (and_left (x == 10) _ no_lf)

-- a line with an LF, and what follows it
with_crlf-line : (before : ℕ) (text rest : Octets) → (before == 13) ≡ false → list_all is_inner text ≡ true →
    with_crlf_after before (text ++ 10 ∷ rest) ≡ text ++ 13 ∷ 10 ∷ with_crlf_after 10 rest
unfolding with_crlf_after
with_crlf-line before [] rest no_cr inner =
    ap (λ front. front ++ with_crlf_after 10 rest) (cond-true (10 == 10 && not (before == 13)) (13 ∷ 10 ∷ []) (10 ∷ [])
    (not_from_false (before == 13) no_cr))
with_crlf-line before (x ∷ text) rest no_cr inner =
    let both = and_parts (is_inner x) (list_all is_inner text) inner in
    let parts = and_parts (not (x == 10)) (not (x == 13)) both.0 in
    ap (λ front. front ++ with_crlf_after x (text ++ 10 ∷ rest)) (same before x (not-true (x == 10) parts.0))
    ∙ ap (λ later. x ∷ later) (with_crlf-line x text rest (not-true (x == 13) parts.1) both.1)

get_crlf_after : (before : ℕ) (lines : List Octets) → (before == 13) ≡ false → All IsLine lines →
    with_crlf_after before (flat_map lf_line lines) ≡ flat_map line lines
unfolding with_crlf_after
get_crlf_after before [] no_cr are = refl
get_crlf_after before (text ∷ lines) no_cr are =
    ap (with_crlf_after before) (append_assoc text (10 ∷ []) (flat_map lf_line lines))
    ∙ with_crlf-line before text (flat_map lf_line lines) no_cr (are 0 text (omega arith))
    ∙ ap (λ later. text ++ 13 ∷ 10 ∷ later) (get_crlf_after 10 lines refl (λ k d below. are (suc k) d (omega arith)))
    ∙ sym (append_assoc text crlf (flat_map line lines))

pub lines_get_crlf : (lines : List Octets) → All IsLine lines → with_crlf (flat_map lf_line lines) ≡ flat_map line lines
lines_get_crlf lines are = get_crlf_after 0 lines refl are

-- a line with a CRLF, and what follows it
with_crlf-whole : (before : ℕ) (text rest : Octets) → list_all is_inner text ≡ true →
    with_crlf_after before (text ++ 13 ∷ 10 ∷ rest) ≡ text ++ 13 ∷ 10 ∷ with_crlf_after 10 rest
unfolding with_crlf_after
with_crlf-whole before [] rest inner = refl
with_crlf-whole before (x ∷ text) rest inner =
    let both = and_parts (is_inner x) (list_all is_inner text) inner in
    let parts = and_parts (not (x == 10)) (not (x == 13)) both.0 in
    ap (λ front. front ++ with_crlf_after x (text ++ 13 ∷ 10 ∷ rest)) (same before x (not-true (x == 10) parts.0))
    ∙ ap (λ later. x ∷ later) (with_crlf-whole x text rest both.1)

crlf_stays_after : (before : ℕ) (lines : List Octets) → All IsLine lines → with_crlf_after before (flat_map line lines) ≡ flat_map line
    lines
unfolding with_crlf_after
crlf_stays_after before [] are = refl
crlf_stays_after before (text ∷ lines) are =
    ap (with_crlf_after before) (append_assoc text crlf (flat_map line lines))
    ∙ with_crlf-whole before text (flat_map line lines) (are 0 text (omega arith))
    ∙ ap (λ later. text ++ 13 ∷ 10 ∷ later) (crlf_stays_after 10 lines (λ k d below. are (suc k) d (omega arith)))
    ∙ sym (append_assoc text crlf (flat_map line lines))

pub crlf_stays : (lines : List Octets) → All IsLine lines → with_crlf (flat_map line lines) ≡ flat_map line lines
crlf_stays lines are = crlf_stays_after 0 lines are

-- the next octet of a text, as the loops meet it
pub with_crlf-step : (before i : ℕ) (text : Octets) → i < length text → with_crlf_after before (drop i text) ≡ with_cr before
    (get_or text i 0) ++ with_crlf_after (get_or text i 0) (drop (i + 1) text)
unfolding with_crlf_after
with_crlf-step before i text within = rw (add-one, drop-cons text i 0) refl

pub with_crlf-none : (before i : ℕ) (text : Octets) → length text ≤ i → with_crlf_after before (drop i text) ≡ []
unfolding with_crlf_after
with_crlf-none before i text past = ap (with_crlf_after before) (drop_of_length-le text past)

pub with_lf-step : (i : ℕ) (text : Octets) → i < length text → with_lf (drop i text) ≡ cond
    (get_or text i 0 == 13 && begins (λ y. y == 10) (drop (i + 1) text)) [] (get_or text i 0 ∷ []) ++ with_lf (drop (i + 1) text)
unfolding with_lf
with_lf-step i text within = rw (add-one, drop-cons text i 0) refl

pub with_lf-none : (i : ℕ) (text : Octets) → length text ≤ i → with_lf (drop i text) ≡ []
unfolding with_lf
with_lf-none i text past = ap with_lf (drop_of_length-le text past)
