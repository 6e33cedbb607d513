-- Where the header of a text ends.
use Rattle.std.specs.Prelude.{◌≡◌, ℕ, ◌+◌, ◌<◌, ◌≤◌, nat_lt, ◌∷◌, length, take, drop}
use Rattle.model.specs.Stream.{Octets}
use Rattle.model.specs.Article.{body, fields, fields_of_lines, has_empty_line, header, header_lines}

-- the first n octets are the header; an empty line and the body follow, or nothing
pub record IsHeader (text : Octets) (n : ℕ) : Type 0 where
  pub within : n ≤ length text
  pub header : header text ≡ take n text
  pub body : body text ≡ drop (n + 2) text
  pub ends : has_empty_line text ≡ nat_lt n (length text)
  pub room : n < length text → n + 2 ≤ length text

-- the first field of a text, whose first line ends at `first`, ends at n
abbrev pub EndsField : Octets → ℕ → ℕ → Type 0
EndsField text first n =
    fields_of_lines (take first text ∷ header_lines (drop first text)) ≡ take n text ∷ fields (drop n text)
