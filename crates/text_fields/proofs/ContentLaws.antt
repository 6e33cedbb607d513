-- A text without its line ends, line by line.
use Rattle.std.specs.Prelude.{◌≡◌, ℕ, true, false, ◌&&◌, ◌==◌, [], ◌∷◌, ◌++◌, length, take, drop, flat_map}
use Rattle.std.specs.List.{list_all}
use Rattle.std.proofs.Common.{sym, ◌∙◌, ap}
use Rattle.std.proofs.lemmas.Bool.{eqb-true}
use Rattle.std.proofs.lemmas.List.{append_assoc, nil_from_length}
use Rattle.std.proofs.lemmas.List.Folds.{list_all-append}
use Rattle.model.specs.Stream.{Octets, lines}
use Rattle.model.specs.Names.{is_blank}
use Rattle.model.specs.Article.{line_text, unfolded}
use Rattle.model.proofs.LineLaws.{lines-empty}

module _ (rest line later : Octets) (n : ℕ) (first : lines rest ≡ take n rest ∷ lines (drop n rest)) (front : line ≡ take n rest)
    (back : later ≡ drop n rest) where
  unfolded-line : unfolded rest ≡ line_text line ++ unfolded later
  unfolded-line = ap (flat_map line_text) first ∙ ap (λ l. line_text l ++ unfolded (drop n rest)) (sym front)
      ∙ ap (λ l. line_text line ++ unfolded l) (sym back)

  pub blank-line : list_all is_blank (line_text line) ≡ true → list_all is_blank (unfolded rest) ≡ list_all is_blank (unfolded later)
  blank-line is = ap (list_all is_blank) unfolded-line ∙ list_all-append is_blank (line_text line) (unfolded later)
      ∙ ap (λ b. b && list_all is_blank (unfolded later)) is

  pub blank-other : list_all is_blank (line_text line) ≡ false → list_all is_blank (unfolded rest) ≡ false
  blank-other is = ap (list_all is_blank) unfolded-line ∙ list_all-append is_blank (line_text line) (unfolded later)
      ∙ ap (λ b. b && list_all is_blank (unfolded later)) is

  pub unfolded-more : (before : Octets) → (before ++ line_text line) ++ unfolded later ≡ before ++ unfolded rest
  unfolded-more before = append_assoc before (line_text line) (unfolded later) ∙ ap (λ l. before ++ l) (sym unfolded-line)

pub unfolded-none : (rest : Octets) → (length rest == 0) ≡ true → unfolded rest ≡ []
unfolded-none rest none = ap unfolded (nil_from_length rest (eqb-true _ _ none)) ∙ ap (flat_map line_text) lines-empty

pub blank-empty : (rest : Octets) → (length rest == 0) ≡ true → list_all is_blank (unfolded rest) ≡ true
blank-empty rest none = ap (list_all is_blank) (unfolded-none rest none)
