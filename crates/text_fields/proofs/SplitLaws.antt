-- The lines of a text, and the places of CRLF in it.
use Rattle.std.specs.Prelude.{◌≡◌, ℕ, zero, suc, ◌+◌, ◌-◌, ◌<◌, ◌≤◌, false, nat_eq, [], ◌∷◌, ◌++◌, length, take, drop, get_or}
use Rattle.std.specs.Prelude.{flat_map}
use Rattle.std.specs.List.{ends_with}
use Rattle.std.proofs.Common.{sym, ◌∙◌, ap, arith, inl, inr}
use Rattle.std.proofs.lemmas.Bool.{cond-true, cond-false, true≢false}
use Rattle.std.proofs.lemmas.List.{append-nil, drop-drop, get_or-drop, length-drop, length-take-le, take-take, take_all}
use Rattle.memchr.specs.Find.{OccursAt, Nowhere, matches}
use Rattle.memchr.proofs.lemmas.MatchLemmas.{matches-first, matches-none}
use Rattle.bstr.specs.Text.{replaced_at}
use Rattle.bstr.proofs.lemmas.MatchListLemmas.{replaced-next, replaced-end}
use Rattle.model.specs.Stream.{Octets, crlf, EndsAt, NeverEnds}
use Rattle.model.specs.Article.{line_text, unfolded}
use Rattle.model.specs.declared.message.Mode.TheVariants as mode
use Rattle.model.proofs.LineLaws.{lines-empty, lines-line, lines-rest}
use Rattle.model.proofs.StreamLaws.{end_cases}
use Rattle.text_fields.proofs.LineLaws.{ends_there, occurs, too_early}

-- CRLF in the rest of a text stands at a later place in the text
occurs-whole : (text : Octets) (last k : ℕ) → last ≤ length text → OccursAt (drop last text) crlf k → OccursAt text crlf (last + k)
occurs-whole text last k within at = record {
  fits = omega (arith, at.fits, length-drop last text, within);
  reads = λ j below. let place : last + k + j ≡ last + (k + j) = omega arith in
      ap (λ i. get_or text i 0) place ∙ sym (get_or-drop last text (k + j) 0) ∙ at.reads j below;
}

-- CRLF after a place of a text stands in the rest from there
occurs-left : (text : Octets) (last k : ℕ) → last ≤ k → OccursAt text crlf k → OccursAt (drop last text) crlf (k - last)
occurs-left text last k low at = record {
  fits = omega (arith, at.fits, length-drop last text, low);
  reads = λ j below. let place : last + (k - last + j) ≡ k + j = omega (arith, low) in
      get_or-drop last text (k - last + j) 0 ∙ ap (λ i. get_or text i 0) place ∙ at.reads j below;
}

-- no CRLF stands in the first line before its end
none_before : (text : Octets) (last n : ℕ) → ((k : ℕ) → k < n → ends_with nat_eq (take k (drop last text)) crlf ≡ false)
    → Nowhere (OccursAt text crlf) last (last + (n - 2))
none_before text last n first k low below at =
    absurd (true≢false (sym (ends_there (drop last text) (k - last) (occurs-left text last k low at)) ∙ first (k - last + 2) (omega arith)))

-- the line ends at the first CRLF
matches-line : (text : Octets) (last n : ℕ) → last ≤ length text → EndsAt mode.Line (drop last text) n
    → matches text crlf last ≡ (last + (n - 2)) ∷ matches text crlf (last + n)
matches-line text last n within at =
    let two = too_early (drop last text) n at.within at.ends in
    let found = occurs-whole text last (n - 2) within (occurs (drop last text) n at.within at.ends) in
    let next : last + (n - 2) + 2 ≡ last + n = omega (arith, two) in
    matches-first text crlf last (last + (n - 2)) (record {
      low = omega arith;
      high = omega (arith, found.fits);
      before = none_before text last n at.first;
    }) found
    ∙ ap (λ m. (last + (n - 2)) ∷ matches text crlf m) next

-- where no line ends there is no CRLF
matches-never : (text : Octets) (last : ℕ) → NeverEnds mode.Line (drop last text) → matches text crlf last ≡ []
matches-never text last never =
    matches-none text crlf last (λ k low below at.
    let left = occurs-left text last k low at in
    absurd (true≢false (sym (ends_there (drop last text) (k - last) left) ∙ never (k - last + 2) (omega (arith, left.fits)))))

-- a line without its CRLF
line_text-line : (rest : Octets) (n : ℕ) → EndsAt mode.Line rest n → line_text (take n rest) ≡ take (n - 2) rest
line_text-line rest n at =
    let cut : length (take n rest) - 2 ≡ n - 2 = ap (λ m. m - 2) (length-take-le n rest at.within) in
    cond-true (ends_with nat_eq (take n rest) crlf) (take (length (take n rest) - 2) (take n rest)) (take n rest) at.ends
    ∙ ap (λ m. take m (take n rest)) cut ∙ take-take (n - 2) n rest (omega arith)

-- a text in which no line ends stays as it is
unfolded-never : (rest : Octets) → NeverEnds mode.Line rest → unfolded rest ≡ rest
unfolded-never [] never = ap (flat_map line_text) lines-empty
unfolded-never (x ∷ rest) never =
    let text = x ∷ rest in
    ap (flat_map line_text) (lines-rest text (omega arith) never)
    ∙ append-nil (line_text text)
    ∙ cond-false (ends_with nat_eq text crlf) (take (length text - 2) text) text
    (ap (λ t. ends_with nat_eq t crlf) (sym (take_all (length text) text (omega arith))) ∙ never (length text) (omega arith))

-- one line, and then what is left where each CRLF is taken out after it
unfolded-line : (text : Octets) (last n : ℕ) → last ≤ length text → EndsAt mode.Line (drop last text) n
    → unfolded (drop (last + n) text) ≡ replaced_at text 2 [] (last + n) (matches text crlf (last + n))
    → unfolded (drop last text) ≡ replaced_at text 2 [] last (matches text crlf last)
unfolded-line text last n within at later =
    let rest = drop last text in
    let two = too_early rest n at.within at.ends in
    let cut : last + (n - 2) - last ≡ n - 2 = omega arith in
    let next : last + (n - 2) + 2 ≡ last + n = omega (arith, two) in
    ap (flat_map line_text) (lines-line rest n at)
    ∙ ap (λ l. l ++ unfolded (drop n rest)) (line_text-line rest n at)
    ∙ ap (λ l. take (n - 2) rest ++ unfolded l) (drop-drop n last text)
    ∙ ap (λ l. take (n - 2) rest ++ l) later
    ∙ sym (ap (replaced_at text 2 [] last) (matches-line text last n within at)
    ∙ replaced-next text 2 [] last (last + (n - 2)) (matches text crlf (last + n))
    ∙ ap (λ m. take m rest ++ replaced_at text 2 [] (last + (n - 2) + 2) (matches text crlf (last + n))) cut
    ∙ ap (λ m. take (n - 2) rest ++ replaced_at text 2 [] m (matches text crlf (last + n))) next)

-- the last line has no CRLF
unfolded-last : (text : Octets) (last : ℕ) → NeverEnds mode.Line (drop last text)
    → unfolded (drop last text) ≡ replaced_at text 2 [] last (matches text crlf last)
unfolded-last text last never =
    unfolded-never (drop last text) never
    ∙ sym (ap (replaced_at text 2 [] last) (matches-never text last never) ∙ replaced-end text 2 [] last)

-- the lines without their CRLF are what is left where each CRLF is taken out
unfolded-from : (fuel last : ℕ) (text : Octets) → last ≤ length text → length text - last ≤ fuel
    → unfolded (drop last text) ≡ replaced_at text 2 [] last (matches text crlf last)
unfolded-from zero last text within enough = elim (end_cases mode.Line (drop last text)) [
  | inl ends ↦ absurd (omega (
    arith,
    too_early (drop last text) ends.0 ends.1.within ends.1.ends,
    ends.1.within,
    length-drop last text,
    enough,
  ))
  | inr never ↦ unfolded-last text last never
]
unfolded-from (suc fuel) last text within enough = elim (end_cases mode.Line (drop last text)) [
  | inl ends ↦
      let n = ends.0 in
      let two = too_early (drop last text) n ends.1.within ends.1.ends in
      unfolded-line text last n within ends.1
      (unfolded-from fuel (last + n) text (omega (arith, ends.1.within, length-drop last text, within)) (omega (arith, two, enough)))
  | inr never ↦ unfolded-last text last never
]

-- a text without its line ends, by the places of CRLF
pub unfolded-replaced : (text : Octets) → unfolded text ≡ replaced_at text 2 [] 0 (matches text crlf 0)
unfolded-replaced text = unfolded-from (length text) 0 text (omega arith) (omega arith)
