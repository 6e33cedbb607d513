-- A text that is stuffed octet by octet is stuffed by lines.
use Rattle.std.proofs.Common.{◌≡◌, ℕ, List, [], ◌∷◌, ◌++◌, refl, sym, ◌∙◌, ap, Bool}
use Rattle.std.proofs.Common.{true, false, cond, append_assoc}
use Rattle.std.specs.Prelude.{bytes_eq, flat_map, ◌&&◌, ◌==◌}
use Rattle.std.specs.List.{onto_first}
use Rattle.std.proofs.lemmas.Bool.{and_parts, eq-eqb, eqb-true}
use Rattle.std.proofs.lemmas.Slice.Eq.{bytes_eq-Decides}
use Rattle.model.specs.Stream.{Octets, crlf, dot_line, lines_after, stuffed_line}
use Rattle.session_replies.specs.Pieces.{PiecesFollow, PiecesMakeTheText}
use Rattle.session_replies.specs.Stuffing.{after, dotted, step, stuffed_from}
use Rattle.session_replies.specs.declared.stuffing.Stuffing.{Stuffing}

-- ---- cuts

sent_cut : (s : Stuffing) (piece later : Octets)
    → stuffed_from s (piece ++ later) ≡ stuffed_from s piece ++ stuffed_from (after s piece) later
sent_cut s [] later = refl
sent_cut s (x ∷ piece) later =
    ap (λ (os : Octets). dotted s x ++ os) (sent_cut (step s x) piece later)
    ∙ sym (append_assoc (dotted s x) (stuffed_from (step s x) piece) (stuffed_from (after (step s x) piece) later))

state_cut : (s : Stuffing) (piece later : Octets) → after s (piece ++ later) ≡ after (after s piece) later
state_cut s [] later = refl
state_cut s (x ∷ piece) later = state_cut (step s x) piece later

pub pieces_follow : PiecesFollow
pieces_follow = record { sent = sent_cut; state = state_cut }

-- ---- by lines

abbrev state : Bool → Bool → Stuffing
state fresh after_cr = record { fresh = fresh; after_cr = after_cr }

-- what is sent of lines, of which the first goes on
sent_on : List Octets → Octets
sent_on [] = []
sent_on (l ∷ ls) = l ++ flat_map stuffed_line ls

-- the octets end a line
ends : (before x : ℕ) → bytes_eq crlf (before ∷ x ∷ []) ≡ ((before == 13) && (x == 10))
ends before x = same_test (bytes_eq crlf (before ∷ x ∷ [])) ((before == 13) && (x == 10)) one two where
  same_test : (b d : Bool) → (b ≡ true → d ≡ true) → (d ≡ true → b ≡ true) → b ≡ d
  same_test true d forth back = sym (forth refl)
  same_test false true forth back = back refl
  same_test false false forth back = refl

  one : bytes_eq crlf (before ∷ x ∷ []) ≡ true → ((before == 13) && (x == 10)) ≡ true
  one is =
      let same : crlf ≡ before ∷ x ∷ [] = (bytes_eq-Decides crlf (before ∷ x ∷ [])).0 is in
      let first : before ≡ 13 = cc in
      let second : x ≡ 10 = cc in
      λ i. eq-eqb before 13 first i && eq-eqb x 10 second i

  two : ((before == 13) && (x == 10)) ≡ true → bytes_eq crlf (before ∷ x ∷ []) ≡ true
  two is =
      let parts = and_parts (before == 13) (x == 10) is in
      let first : before ≡ 13 = eqb-true before 13 parts.0 in
      let second : x ≡ 10 = eqb-true x 10 parts.1 in
      (bytes_eq-Decides crlf (before ∷ x ∷ [])).1 (λ i. sym first i ∷ sym second i ∷ [])

first_of : (fresh : Bool) (x : ℕ) (ls : List Octets) → flat_map stuffed_line (onto_first x ls) ≡ dotted (state true fresh) x ++ sent_on ls
unfolding sent_on
first_of fresh x [] = by_dot (x == 46) where
  by_dot : (b : Bool) → cond b (46 ∷ x ∷ []) (x ∷ []) ++ [] ≡ cond b (46 ∷ x ∷ []) (x ∷ []) ++ []
  by_dot b = refl
first_of fresh x (l ∷ ls) = by_dot (x == 46) where
  by_dot : (b : Bool) → cond b (46 ∷ x ∷ l) (x ∷ l) ++ flat_map stuffed_line ls ≡ cond b (46 ∷ x ∷ []) (x ∷ []) ++
      (l ++ flat_map stuffed_line ls)
  by_dot true = refl
  by_dot false = refl

on_of : (cr : Bool) (x : ℕ) (ls : List Octets) → sent_on (onto_first x ls) ≡ dotted (state false cr) x ++ sent_on ls
unfolding sent_on
on_of cr x [] = refl
on_of cr x (l ∷ ls) = refl

-- what is sent of the lines after an octet, by whether a line begins there
record Both (before : ℕ) (text : Octets) : Type 0 where
  pub fresh : flat_map stuffed_line (lines_after before text) ≡ stuffed_from (state true (before == 13)) text
  pub going : sent_on (lines_after before text) ≡ stuffed_from (state false (before == 13)) text

both : (before : ℕ) (text : Octets) → Both before text
unfolding lines_after sent_on
both before [] = record { fresh = refl; going = refl }
both before (x ∷ rest) = record {
  fresh = fresh_by (bytes_eq crlf (before ∷ x ∷ [])) (sym (ends before x)) (both x rest);
  going = going_by (bytes_eq crlf (before ∷ x ∷ [])) (sym (ends before x)) (both x rest);
} where
  fresh_by : (b : Bool) → ((before == 13) && (x == 10)) ≡ b → Both x rest
      → flat_map stuffed_line (cond b ((x ∷ []) ∷ lines_after x rest) (onto_first x (lines_after x rest)))
      ≡ stuffed_from (state true (before == 13)) (x ∷ rest)
  fresh_by true at rests = ap (λ (os : Octets). dotted (state true (before == 13)) x ++ os) (rests.fresh
      ∙ ap (λ (f : Bool). stuffed_from (state f (x == 13)) rest) (sym at))
  fresh_by false at rests =
      first_of (before == 13) x (lines_after x rest)
      ∙ ap (λ (os : Octets). dotted (state true (before == 13)) x ++ os) (rests.going
      ∙ ap (λ (f : Bool). stuffed_from (state f (x == 13)) rest) (sym at))

  going_by : (b : Bool) → ((before == 13) && (x == 10)) ≡ b → Both x rest
      → sent_on (cond b ((x ∷ []) ∷ lines_after x rest) (onto_first x (lines_after x rest))) ≡ stuffed_from (state false (before == 13))
      (x ∷ rest)
  going_by true at rests = ap (λ (os : Octets). x ∷ os) (rests.fresh ∙ ap (λ (f : Bool). stuffed_from (state f (x == 13)) rest) (sym at))
  going_by false at rests =
      on_of (before == 13) x (lines_after x rest)
      ∙ ap (λ (os : Octets). dotted (state false (before == 13)) x ++ os) (rests.going
      ∙ ap (λ (f : Bool). stuffed_from (state f (x == 13)) rest) (sym at))

pub pieces_make : PiecesMakeTheText
pieces_make text = ap (λ (os : Octets). os ++ dot_line) (sym (both 0 text).fresh)
