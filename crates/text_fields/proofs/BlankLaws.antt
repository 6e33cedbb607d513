-- SP and TAB at the ends of a text.
use Rattle.std.specs.Prelude.{◌≡◌, ℕ, zero, suc, ◌+◌, ◌-◌, ◌<◌, ◌≤◌, Bool, true, false, not, [], ◌∷◌, length, take, drop, get_or, reverse}
use Rattle.std.specs.Prelude.{Option, Some, None, is_some}
use Rattle.std.specs.List.{list_all}
use Rattle.std.proofs.Common.{sym, ◌∙◌, ap, refl, arith}
use Rattle.std.proofs.lemmas.Bool.{cond-true, cond-false, true≢false}
use Rattle.std.proofs.lemmas.List.{get_or-take, length-take-le, reverse-append, reverse-reverse, take-take, take_all}
use Rattle.std.proofs.lemmas.List.Folds.{list_all_at}
use Rattle.std.proofs.Math.Seq.{take-suc}
use Rattle.memchr.specs.Find.{IsFirstByte, Nowhere, Passes}
use Rattle.bstr.specs.Bytes.{not_in}
use Rattle.model.specs.Stream.{Octets}
use Rattle.model.specs.Names.{is_blank}
use Rattle.model.specs.Article.{trimmed_start}
use Rattle.text_names.proofs.BlankLaws.{blanks, inside, outside}
use Rattle.text_fields.proofs.LineLaws.{each_passes}

start-blank : (x : ℕ) (rest : Octets) → is_blank x ≡ true → trimmed_start (x ∷ rest) ≡ trimmed_start rest
unfolding trimmed_start
start-blank x rest is = cond-true (is_blank x) (trimmed_start rest) (x ∷ rest) is

start-other : (x : ℕ) (rest : Octets) → is_blank x ≡ false → trimmed_start (x ∷ rest) ≡ x ∷ rest
unfolding trimmed_start
start-other x rest is = cond-false (is_blank x) (trimmed_start rest) (x ∷ rest) is

-- the first octet that is not blank is where the trimmed text begins
pub start-found : (text : Octets) (at : ℕ) → at < length text → Nowhere (Passes (not_in blanks) text) 0 at → Passes (not_in blanks) text at
    → drop at text ≡ trimmed_start text
start-found [] at within before found = absurd (omega arith)
start-found (x ∷ rest) zero within before found = sym (start-other x rest (outside x found))
start-found (x ∷ rest) (suc at) within before found =
    start-found rest at (omega arith) (λ k low below. before (suc k) (omega arith) (omega arith)) found
    ∙ sym (start-blank x rest (inside x (before 0 (omega arith) (omega arith))))

-- a text of blanks leaves nothing
pub start-none : (text : Octets) → Nowhere (Passes (not_in blanks) text) 0 (length text) → [] ≡ trimmed_start text
unfolding trimmed_start
start-none [] none = refl
start-none (x ∷ rest) none =
    start-none rest (λ k low below. none (suc k) (omega arith) (omega arith))
    ∙ sym (start-blank x rest (inside x (none 0 (omega arith) (omega arith))))

-- a text without its trailing blanks
abbrev trimmed_end : Octets → Octets
trimmed_end text = reverse (trimmed_start (reverse text))

-- the last octet after those before it
reversed : (text : Octets) (n : ℕ) → length text ≡ suc n → reverse text ≡ get_or text n 0 ∷ reverse (take n text)
reversed text n size =
    ap reverse (sym (take_all (suc n) text (omega (arith, size))) ∙ take-suc text n 0 (omega (arith, size)))
    ∙ reverse-append (take n text) (get_or text n 0 ∷ [])

-- blanks at the end are dropped one by one
end-blanks : (n e : ℕ) (text : Octets) → length text ≡ e + n → ((k : ℕ) → e ≤ k → k < length text → is_blank (get_or text k 0) ≡ true)
    → trimmed_end (take e text) ≡ trimmed_end text
end-blanks zero e text size each = ap trimmed_end (take_all e text (omega (arith, size)))
end-blanks (suc n) e text size each =
    let front = take (e + n) text in
    let long : length front ≡ e + n = length-take-le (e + n) text (omega (arith, size)) in
    ap trimmed_end (sym (take-take e (e + n) text (omega arith)))
    ∙ end-blanks n e front long (λ k low below. ap is_blank (get_or-take (e + n) text k 0 (omega (arith, long)))
    ∙ each k low (omega (arith, size, long)))
    ∙ sym (ap reverse (ap trimmed_start (reversed text (e + n) (omega (arith, size)))
    ∙ start-blank (get_or text (e + n) 0) (reverse front) (each (e + n) (omega arith) (omega (arith, size)))))

-- after the last octet that is not blank the trimmed text ends
pub end-found : (text : Octets) (at : ℕ) → at < length text → Nowhere (Passes (not_in blanks) text) (at + 1) (length text)
    → Passes (not_in blanks) text at → take (at + 1) text ≡ trimmed_end text
end-found text at within after found =
    let front = take (at + 1) text in
    let long : length front ≡ suc at = length-take-le (at + 1) text (omega arith) ∙ (let e : at + 1 ≡ suc at = omega arith in e) in
    let other : is_blank (get_or front at 0) ≡ false = ap is_blank (get_or-take (at + 1) text at 0 (omega arith))
    ∙ outside (get_or text at 0) found in
    let kept = start-other (get_or front at 0) (reverse (take at front)) other in
    let size : length text ≡ (at + 1) + (length text - (at + 1)) = omega arith in
    sym (reverse-reverse front) ∙ ap reverse (reversed front at long ∙ sym kept ∙ ap trimmed_start (sym (reversed front at long)))
    ∙ end-blanks (length text - (at + 1)) (at + 1) text size (λ k low below. inside (get_or text k 0) (after k low below))

pub end-none : (text : Octets) → Nowhere (Passes (not_in blanks) text) 0 (length text) → [] ≡ trimmed_end text
unfolding trimmed_start
end-none text none = end-blanks (length text) 0 text (let e : length text ≡ 0 + length text = omega arith in
    e) (λ k low below. inside (get_or text k 0) (none k (omega arith) below))

-- each octet is blank where none is found that is not
pub are_blank-found : (octets : Octets) (found : Option ℕ) (none : Bool) → IsFirstByte (not_in blanks) octets found
    → is_some found ≡ not none → none ≡ list_all is_blank octets
are_blank-found octets None none nowhere is =
    turned none (sym is) ∙ sym (each_passes is_blank octets (λ k below. inside (get_or octets k 0) (nowhere k (omega arith) below)))
  where
    turned : (b : Bool) → not b ≡ false → b ≡ true
    turned true e = refl
    turned false e = absurd (true≢false e)
are_blank-found octets (Some k) none found is =
    turned none (sym is) ∙ sym (list_all_at is_blank octets k 0 found.0.high (outside (get_or octets k 0) found.1))
  where
    turned : (b : Bool) → not b ≡ true → b ≡ false
    turned false e = refl
    turned true e = absurd (true≢false (sym e))
