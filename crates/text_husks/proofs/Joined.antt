-- Names with a comma between each two, and the text that is left of an article.
use Rattle.std.proofs.Common.{◌≡◌, ℕ, List, [], ◌∷◌, ◌++◌, sym, ◌∙◌, ap, append_assoc, append-nil}
use Rattle.std.specs.Prelude.{codes, flat_map}
use Rattle.std.specs.List.{join_with_byte}
use Rattle.model.specs.Stream.{crlf, line}
use Rattle.model_renewed.specs.Renewed.{husk}

pub joined_cons : (first : List ℕ) (others : List (List ℕ))
    → join_with_byte 44 (first ∷ others) ≡ first ++ flat_map (λ name. 44 ∷ name) others
joined_cons first [] = sym (append-nil first)
joined_cons first (next ∷ others) = ap (λ o. first ++ (44 ∷ o)) (joined_cons next others)

abbrev pub front : List ℕ
front = line (codes "Path: -") ++ (line (codes "Date: -") ++
    (line (codes "From: -") ++ (line (codes "Subject: -") ++ codes "Message-ID: ")))

abbrev pub middle : List ℕ
middle = crlf ++ codes "Newsgroups: "

pub husk_is : (id : List ℕ) (names : List (List ℕ))
    → husk id names ≡ front ++ (id ++ (middle ++ (join_with_byte 44 names ++ (crlf ++ crlf))))
husk_is id names =
    ap (λ o. front ++ o) (append_assoc id crlf (line (codes "Newsgroups: " ++ join_with_byte 44 names) ++ crlf)
    ∙ ap (λ o. id ++ (middle ++ o)) (append_assoc (join_with_byte 44 names) crlf crlf))

-- pieces one after the other
pub pieces : (a b c d e : List ℕ) → (((a ++ b) ++ c) ++ d) ++ e ≡ a ++ (b ++ (c ++ (d ++ e)))
pieces a b c d e =
    append_assoc ((a ++ b) ++ c) d e ∙ append_assoc (a ++ b) c (d ++ e) ∙ append_assoc a b (c ++ (d ++ e))
