-- What the server sends is read as it was meant.
use Rattle.std.proofs.Common.{◌≡◌, ℕ, zero, suc, ◌<◌, List, [], ◌∷◌, ◌++◌, refl, sym, ◌∙◌, ap, arith, inl, inr, Bool, true, false, cond}
use Rattle.std.proofs.Common.{append_assoc}
use Rattle.std.specs.Prelude.{length, flat_map, bytes_eq, ◌==◌, Some}
use Rattle.std.specs.List.{list_all}
use Rattle.std.proofs.lemmas.Bool.{true≢false, and_parts, ne_eqb, cases_Bool}
use Rattle.std.proofs.lemmas.List.{length-append}
use Rattle.model.specs.Stream.{Octets, crlf}
use Rattle.model_rfc.specs.Grammar.{is_line_octet}
use Rattle.model_rfc.specs.Responses.{doubled, sent}
use Rattle.model_rfc.proofs.Blocks.{sent_line}
use Rattle.model_rfc.specs.Reading.{read_line, read_block, undoubled}

no_cr : (x : ℕ) → is_line_octet x ≡ true → (x == 13) ≡ false
no_cr x is = ne_eqb x 13 (λ e. true≢false (sym is ∙ ap is_line_octet e))

-- a line is read up to its CRLF
pub line_read : (l rest : Octets) → list_all is_line_octet l ≡ true → read_line (l ++ (13 ∷ 10 ∷ rest)) ≡ Some (l, rest)
unfolding read_line
line_read [] rest clean = refl
line_read (x ∷ l) rest clean =
    let both = and_parts (is_line_octet x) (list_all is_line_octet l) clean in
    rw (no_cr x both.0, line_read l rest both.1) refl

undone : (l : Octets) → undoubled (doubled l) ≡ l
undone [] = refl
undone (x ∷ l) = elim (cases_Bool (x == 46)) [
  | inl dot ↦ rw dot refl
  | inr other ↦ rw (other, other) refl
]

doubled_clean : (l : Octets) → list_all is_line_octet l ≡ true → list_all is_line_octet (doubled l) ≡ true
doubled_clean [] clean = refl
doubled_clean (x ∷ l) clean = by_dot (x == 46) where
  by_dot : (b : Bool) → list_all is_line_octet (cond b (46 ∷ x ∷ l) (x ∷ l)) ≡ true
  by_dot true = clean
  by_dot false = clean

no_dot : (l : Octets) → bytes_eq (doubled l) (46 ∷ []) ≡ false
no_dot [] = refl
no_dot (x ∷ l) = elim (cases_Bool (x == 46)) [
  | inl dot ↦ rw dot refl
  | inr other ↦ rw (other, other) refl
]

read_one : (n : ℕ) (octets l rest : Octets) (later : List Octets) (more : Octets) → read_line octets ≡ Some (l, rest)
    → bytes_eq l (46 ∷ []) ≡ false
    → read_block n rest ≡ Some (later, more) → read_block (suc n) octets ≡ Some (undoubled l ∷ later, more)
unfolding read_block
read_one n octets l rest later more is other back = rw (is, other, back) refl

read_end : (n : ℕ) (more : Octets) → read_block (suc n) (46 ∷ 13 ∷ 10 ∷ more) ≡ Some ([], more)
unfolding read_block
read_end n more = rw (line_read (46 ∷ []) more refl) refl

-- a block is read up to its dot
pub block_read : (n : ℕ) (ls : List Octets) (more : Octets) → length ls < n → list_all (list_all is_line_octet) ls ≡ true
    → read_block n (sent ls ++ more) ≡ Some (ls, more)
block_read zero ls more enough clean = absurd (omega arith)
block_read (suc n) [] more enough clean = read_end n more
block_read (suc n) (l ∷ ls) more enough clean =
    let both = and_parts (list_all is_line_octet l) (list_all (list_all is_line_octet) ls) clean in
    let shape : sent (l ∷ ls) ++ more ≡ doubled l ++ (13 ∷ 10 ∷ (sent ls ++ more)) =
    simp append_assoc in
    ap (read_block (suc n)) shape
    ∙ read_one n (doubled l ++ (13 ∷ 10 ∷ (sent ls ++ more))) (doubled l) (sent ls ++ more) ls more
    (line_read (doubled l) (sent ls ++ more) (doubled_clean l both.0)) (no_dot l) (block_read n ls more (omega arith) both.1)
    ∙ ap (λ k. Some (k ∷ ls, more)) (undone l)

-- each line takes two octets and more
pub sent_size : (ls : List Octets) → length ls < length (sent ls)
sent_size [] = omega arith
sent_size (l ∷ ls) = omega (
  arith,
  sent_size ls,
  length-append (sent_line l ++ flat_map sent_line ls) (46 ∷ crlf),
  length-append (sent_line l) (flat_map sent_line ls),
  length-append (doubled l) crlf,
  length-append (flat_map sent_line ls) (46 ∷ crlf),
)
