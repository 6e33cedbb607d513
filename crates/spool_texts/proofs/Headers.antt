-- The header and the body of a text, by the length of the header.
use Rattle.std.proofs.Common.{◌≡◌, ◌⊎◌, inl, inr, ℕ, ◌+◌, ◌-◌, ◌<◌, ◌≤◌, Bool, true, false, List, [], ◌∷◌, ◌++◌, length, take, drop}
use Rattle.std.proofs.Common.{refl, sym, ◌∙◌, ap, arith}
use Rattle.std.specs.Prelude.{bytes_eq, cond, min, not}
use Rattle.std.specs.List.{concat, take_while}
use Rattle.std.proofs.Math.Seq.{drop-append-add, take-append_seam}
use Rattle.std.proofs.lemmas.Bool.{cases_lt}
use Rattle.std.proofs.lemmas.List.{drop-drop, drop-take, drop_all, length-append, length-take-le, take-take}
use Rattle.std.proofs.lemmas.List.Folds.{concat-append}
use Rattle.std.proofs.lemmas.List.Sums.{take_while-cons}
use Rattle.std.proofs.lemmas.Slice.Eq.{bytes_eq-Decides}
use Rattle.model.specs.Article.{body, header, header_lines}
use Rattle.model.specs.Stream.{Octets, crlf, lines}
use Rattle.text_fields.proofs.HeaderLaws.{concat-lines}

-- ---- a text in two parts

abbrev is_header_line : Octets → Bool
is_header_line line = not (bytes_eq line crlf)

-- the lines after the header: none, or the empty line and others
record IsSplit (all : List Octets) : Type 0 where
  rest : List Octets
  parts : all ≡ take_while is_header_line all ++ rest
  begins : (rest ≡ []) ⊎ ((later : List Octets) × (rest ≡ crlf ∷ later))

is_split : (all : List Octets) → IsSplit all
is_split [] = record { rest = []; parts = refl; begins = inl refl }
is_split (line ∷ later) = by_test (bytes_eq line crlf) refl (is_split later) where
  by_test : (b : Bool) → bytes_eq line crlf ≡ b → IsSplit later → IsSplit (line ∷ later)
  by_test true ends its =
      record {
        rest = line ∷ later;
        parts = ap (λ (ls : List Octets). ls ++ line ∷ later) (sym (take_while-cons is_header_line line later
            ∙ ap (λ (b : Bool). cond (not b) (line ∷ take_while is_header_line later) []) ends));
        begins = inr (later, ap (λ (l : Octets). l ∷ later) ((bytes_eq-Decides line crlf).0 ends));
      }
  by_test false other its =
      record {
        rest = its.rest;
        parts = ap (λ (ls : List Octets). line ∷ ls) its.parts
            ∙ ap (λ (ls : List Octets). ls ++ its.rest) (sym (take_while-cons is_header_line line later
            ∙ ap (λ (b : Bool). cond (not b) (line ∷ take_while is_header_line later) []) other));
        begins = its.begins;
      }

module _ (text : Octets) where
  its : IsSplit (lines text)
  its = is_split (lines text)

  whole : text ≡ header text ++ concat its.rest
  whole = sym (concat-lines text) ∙ ap concat its.parts ∙ concat-append (header_lines text) its.rest

  -- the header is the front of the text
  pub header_is_front : header text ≡ take (length (header text)) text
  header_is_front =
      sym (take-append_seam (header text) (concat its.rest)) ∙ ap (take (length (header text))) (sym whole)

  body_is : body text ≡ concat (drop 1 its.rest)
  body_is = ap concat (ap (drop (length (header_lines text) + 1)) its.parts ∙ drop-append-add (header_lines text) its.rest 1)

  -- the body follows the header and the empty line
  pub body_is_rest : body text ≡ drop (length (header text) + 2) text
  body_is_rest =
      body_is ∙ by_rest its.begins ∙ sym (drop-append-add (header text) (concat its.rest) 2)
      ∙ ap (drop (length (header text) + 2)) (sym whole)
    where
      by_rest : ((its.rest ≡ []) ⊎ ((later : List Octets) × (its.rest ≡ crlf ∷ later)))
          → concat (drop 1 its.rest) ≡ drop 2 (concat its.rest)
      by_rest (inl none) = ap (λ (ls : List Octets). concat (drop 1 ls)) none ∙ ap (λ (ls : List Octets). drop 2 (concat ls)) (sym none)
      by_rest (inr more) = ap (λ (ls : List Octets). concat (drop 1 ls)) more.1 ∙ ap (λ (ls : List Octets). drop 2 (concat ls)) (sym more.1)

  pub header_within : length (header text) ≤ length text
  header_within =
      let long = ap (λ (l : Octets). length l) whole ∙ length-append (header text) (concat its.rest) in
      omega (arith, long)

-- ---- parts of a text that is some octets of a file

-- the first n octets, where the header has n
pub head_stands : (size n : ℕ) (octets : Octets) → length (take size octets) ≡ size → n ≡ length (header (take size octets))
    → take n octets ≡ header (take size octets)
head_stands size n octets full is =
    let within = header_within (take size octets) in
    sym (take-take n size octets (omega (arith, is, within, full))) ∙ ap (λ (m : ℕ). take m (take size octets)) is
    ∙ sym (header_is_front (take size octets))

-- what follows the header and the empty line
pub body_stands : (from size skipped n : ℕ) (content : Octets) → length (take size (drop from content)) ≡ size → skipped ≡ min size (n + 2)
    → n ≡ length (header (take size (drop from content)))
    → take (size - skipped) (drop (from + skipped) content) ≡ body (take size (drop from content))
body_stands from size skipped n content full is its_header =
    let split : size ≡ skipped + (size - skipped) = omega (arith, is) in
    ap (take (size - skipped)) (sym (drop-drop skipped from content))
    ∙ sym (drop-take skipped (size - skipped) (drop from content)) ∙ ap (λ (m : ℕ). drop skipped (take m (drop from content))) (sym split)
    ∙ by_room (cases_lt (n + 2) size) ∙ ap (λ (m : ℕ). drop (m + 2) (take size (drop from content))) its_header
    ∙ sym (body_is_rest (take size (drop from content)))
  where
    by_room : ((n + 2 < size) ⊎ (size ≤ n + 2))
        → drop skipped (take size (drop from content)) ≡ drop (n + 2) (take size (drop from content))
    by_room (inl more) = let same : skipped ≡ n + 2 = omega (arith, is) in ap (λ (m : ℕ). drop m (take size (drop from content))) same
    by_room (inr none) = drop_all skipped (take size (drop from content)) (omega (arith, is, full))
        ∙ sym (drop_all (n + 2) (take size (drop from content)) (omega (arith, full)))
