-- What is sent of an article.
use Rattle.std.proofs.Common.{◌≡◌, ℕ, zero, suc, ◌+◌, ◌<◌, ◌^◌, List, [], ◌∷◌, ◌++◌, map, refl, sym, ◌∙◌, ap, arith, append_assoc}
use Rattle.std.proofs.Common.{append-nil, length}
use Rattle.std.specs.Prelude.{◌==◌, codes, decimal}
use Rattle.std.specs.Int.Digits.{digits_of}
use Rattle.std.proofs.lemmas.Fmt.{decimal-digits_of, decimal_digit, decimal_nonempty}
use Rattle.std.proofs.lemmas.Bool.{ne_eqb, cond-false}
use Rattle.model.specs.Stream.{Octets, dot_line, line, stuffed_line}
use Rattle.model.specs.Article.{body_lines, overview_field, overview_line}
use Rattle.model.specs.Answer.{id_of, part_reply}
use Rattle.model.specs.Replies.{block}
use Rattle.model.specs.Spool.{NewsArticle}
use Rattle.model.specs.declared.command.Part.{Part}
use Rattle.model.specs.declared.command.Part.TheVariants as part
use Rattle.session_lookups.specs.Held.{sent_part}
use Rattle.session_reading.specs.Words.{code_of, found_line}

-- a line, and then the part itself
pub parted : (p : Part) (n : ℕ) (a : NewsArticle) → part_reply p n a ≡ found_line (code_of p) n (id_of a) ++ sent_part p a.text
parted part.Whole n a = refl
parted part.Head n a = refl
parted part.Body n a = refl
parted part.Nothing n a = sym (append-nil (found_line (codes "223") n (id_of a)))

-- ---- a line that begins with a digit is not stuffed

-- the first octet of a number
record Begins (xs : Octets) : Type 0 where
  pub digit : ℕ
  pub rest : Octets
  pub is : xs ≡ (48 + digit) ∷ rest

first_of : (n : ℕ) (ds : List ℕ) → decimal n ≡ map (λ d. 48 + d) ds → 0 < length (decimal n) → Begins (decimal n)
first_of n [] is some = absurd (let none : length (decimal n) ≡ 0 = ap (λ (xs : Octets). length xs) is in omega (arith, some, none))
first_of n (d ∷ ds) is some = record { digit = d; rest = map (λ d. 48 + d) ds; is = is }

number_begins : (n : ℕ) → n < 2 ^ 64 → Begins (decimal n)
number_begins zero small = record { digit = 0; rest = []; is = decimal_digit 0 (omega arith) }
number_begins (suc n) small = first_of (suc n) (digits_of 10 (suc n)) (decimal-digits_of (suc n) (omega arith) small)
    (decimal_nonempty (suc n) small)

plain_if : (n : Octets) → Begins n → stuffed_line (line n) ≡ line n
plain_if n begins = rw begins.is (cond-false (48 + begins.digit == 46) _ _ (ne_eqb (48 + begins.digit) 46 (λ same. omega arith)))

-- a number's line is sent as it is
pub number_plain : (n : ℕ) → n < 2 ^ 64 → stuffed_line (line (decimal n)) ≡ line (decimal n)
number_plain n small = plain_if (decimal n) (number_begins n small)

joined_plain : (n s f d m r b l : Octets) → Begins n
    → stuffed_line (line (n ++ codes "\t" ++ s ++ codes "\t" ++ f ++ codes "\t" ++ d ++ codes "\t" ++ m ++ codes "\t" ++ r ++ codes "\t"
    ++ b ++ codes "\t" ++ l))
    ≡ line (n ++ codes "\t" ++ s ++ codes "\t" ++ f ++ codes "\t" ++ d ++ codes "\t" ++ m ++ codes "\t" ++ r ++ codes "\t" ++ b
    ++ codes "\t" ++ l)
joined_plain n s f d m r b l begins =
    rw begins.is (cond-false (48 + begins.digit == 46) _ _ (ne_eqb (48 + begins.digit) 46 (λ same. omega arith)))

pub overview_plain : (n : ℕ) (text : Octets) → n < 2 ^ 64 → stuffed_line (line (overview_line n text)) ≡ line (overview_line n text)
overview_plain n text small =
    joined_plain (decimal n) (overview_field (codes "Subject") text) (overview_field (codes "From") text)
    (overview_field (codes "Date") text) (overview_field (codes "Message-ID") text) (overview_field (codes "References") text)
    (decimal (length text)) (decimal (length (body_lines text)))
    (number_begins n small)

-- the overview of one article
pub overview_block : (status : Octets) (n : ℕ) (text : Octets) → n < 2 ^ 64
    → block status (overview_line n text ∷ []) ≡ line status ++ line (overview_line n text) ++ dot_line
overview_block status n text small =
    ap (λ os. line status ++ ((os ++ []) ++ dot_line)) (overview_plain n text small)
    ∙ ap (λ os. line status ++ (os ++ dot_line)) (append-nil (line (overview_line n text)))
    ∙ sym (append_assoc (line status) (line (overview_line n text)) dot_line)
