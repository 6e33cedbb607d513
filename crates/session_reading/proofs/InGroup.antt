-- The articles of a group that are in a range, by their numbers.
use Rattle.std.proofs.Common.{◌≡◌, ℕ, suc, ◌+◌, ◌-◌, ◌<◌, ◌≤◌, ◌^◌, List, [], ◌∷◌, ◌++◌, map, refl, sym, ◌∙◌, ap, arith, append_assoc}
use Rattle.std.proofs.Common.{Bool, true, false, cond, length}
use Rattle.std.specs.Prelude.{◌&&◌, codes, decimal, drop, filter, flat_map, max, nat_le, take, Option, Some, None}
use Rattle.std.specs.List.{enumerate_from}
use Rattle.std.proofs.Math.Path.{transport}
use Rattle.std.proofs.lemmas.Bool.{le-leb, lt-leb, leb-true, and_from, and_right}
use Rattle.std.proofs.lemmas.List.{length-take, length-drop}
use Rattle.model.specs.Names.{is_in_range}
use Rattle.model.specs.Stream.{Octets, crlf, dot_line, line, stuffed_line}
use Rattle.model.specs.Article.{overview_line}
use Rattle.model.specs.Answer.{listgroup_answer, numbers_in, over_range, overview_or_none, says}
use Rattle.model.specs.Replies.{block, no_such_number, overview_follows}
use Rattle.model.specs.Spool.{Contents, NewsArticle, numbered_articles}
use Rattle.model.specs.declared.session.Session.{Session}
use Rattle.model.specs.declared.command.Range.{Range}
use Rattle.session_reading.specs.Words.{count_in, counted, first_in, last_in}
use Rattle.kernel_outbox.specs.Numbers.{number_lines}
use Rattle.session_replies.specs.Answered.{replied, with_group}
use Rattle.session_reading.proofs.Picking.{between, filter_twice}
use Rattle.session_reading.proofs.Replied.{number_plain, overview_plain}

-- the number is not above the last
abbrev up_to : Option ℕ → ℕ → Bool
up_to None j = true
up_to (Some last) j = nat_le j last

in_range : (first : ℕ) (last : Option ℕ) (j : ℕ) → is_in_range (record { first = first; last = last }) j ≡ (nat_le first j && up_to last j)
in_range first None j = refl
in_range first (Some last) j = refl

-- the number is in the group and in the range
abbrev is_wanted : ℕ → Option ℕ → ℕ → ℕ → Bool
is_wanted first last low j = nat_le low j && (nat_le first j && up_to last j)

below_first : (first : ℕ) (last : Option ℕ) (low j : ℕ) → j < max first low → is_wanted first last low j ≡ false
below_first first last low j less = by_low (nat_le low j) (nat_le first j) refl refl where
  by_low : (a b : Bool) → nat_le low j ≡ a → nat_le first j ≡ b → (a && (b && up_to last j)) ≡ false
  by_low false b low_is first_is = refl
  by_low true false low_is first_is = refl
  by_low true true low_is first_is = absurd (omega (arith, less, leb-true low j low_is, leb-true first j first_is))

above_last : (first : ℕ) (last : Option ℕ) (low high j : ℕ) → last_in last high < j → j ≤ high → is_wanted first last low j ≡ false
above_last first None low high j more within = absurd (omega (arith, more, within))
above_last first (Some l) low high j more within =
    and_right (nat_le low j) (nat_le first j && nat_le j l)
    (and_right (nat_le first j) (nat_le j l) (lt-leb j l (omega (arith, more, within))))

up_to_last : (last : Option ℕ) (high j : ℕ) → j ≤ last_in last high → up_to last j ≡ true
up_to_last None high j within = refl
up_to_last (Some l) high j within = le-leb j l (omega (arith, within))

within_range : (first : ℕ) (last : Option ℕ) (low high j : ℕ) → max first low ≤ j → j ≤ last_in last high
    → is_wanted first last low j ≡ true
within_range first last low high j from to =
    and_from (nat_le low j) (nat_le first j && up_to last j) (le-leb low j (omega (arith, from)))
    (and_from (nat_le first j) (up_to last j) (le-leb first j (omega (arith, from))) (up_to_last last high j to))

-- the articles in the group that are in the range
pub ranged : (first : ℕ) (last : Option ℕ) (low : ℕ) (filed : List NewsArticle) → 1 ≤ low
    → filter (λ p. is_in_range (record { first = first; last = last }) p.0) (numbered_articles (record { low = low; filed = filed }))
    ≡ enumerate_from (max first low) (take (last_in last (length filed) + 1 - max first low) (drop (max first low - 1) filed))
ranged first last low filed some =
    filter_twice (λ p. is_in_range (record { first = first; last = last }) p.0) (λ p. nat_le low p.0) (enumerate_from 1 filed)
    ∙ filter_same (enumerate_from 1 filed)
    ∙ between (is_wanted first last low) (max first low - 1) count 1 filed
    (λ j from to. below_first first last low j (omega (arith, to, one)))
    (λ j from to. within_range first last low (length filed) j (omega (arith, from, one)) (omega (arith, to, one)))
    (λ j from to. above_last first last low (length filed) j (omega (arith, from, one)) (omega (arith, to)))
    ∙ ap (λ m. enumerate_from m (take count (drop (max first low - 1) filed))) start
  where
    count : ℕ
    count = last_in last (length filed) + 1 - max first low

    one : 1 ≤ max first low
    one = omega (arith, some)

    start : 1 + (max first low - 1) ≡ max first low
    start = omega (arith, some)

    filter_same : (ps : List (ℕ × NewsArticle))
        → filter (λ p. nat_le low p.0 && is_in_range (record { first = first; last = last }) p.0) ps
        ≡ filter (λ p. is_wanted first last low p.0) ps
    filter_same [] = refl
    filter_same (p ∷ ps) =
        ap (λ b. cond (nat_le low p.0 && b) (p ∷ filter (λ p. nat_le low p.0 && is_in_range (record { first = first; last = last }) p.0) ps)
        (filter (λ p. nat_le low p.0 && is_in_range (record { first = first; last = last }) p.0) ps)) (in_range first last p.0)
        ∙ ap (λ ks. cond (is_wanted first last low p.0) (p ∷ ks) ks) (filter_same ps)

-- ---- what is sent of them

length_taken : {X : Type 0} (n d : ℕ) (xs : List X) → d + n ≤ length xs → length (take n (drop d xs)) ≡ n
length_taken n d xs within = omega (arith, length-take n (drop d xs), length-drop d xs)

-- overview lines are sent as they are
pub overviews_plain : (a : ℕ) (xs : List NewsArticle) → a + length xs ≤ 2 ^ 64
    → flat_map stuffed_line (map line (map (λ (p : ℕ × NewsArticle). overview_line p.0 p.1.text) (enumerate_from a xs)))
    ≡ flat_map (λ (p : ℕ × NewsArticle). line (overview_line p.0 p.1.text)) (enumerate_from a xs)
overviews_plain a [] small = refl
overviews_plain a (x ∷ xs) small =
    ap (λ os. os ++ flat_map stuffed_line
    (map line (map (λ (p : ℕ × NewsArticle). overview_line p.0 p.1.text) (enumerate_from (a + 1) xs))))
    (overview_plain a x.text (omega (arith, small)))
    ∙ ap (λ os. line (overview_line a x.text) ++ os) (overviews_plain (a + 1) xs (omega (arith, small)))

-- how many there are
taken_size : (first : ℕ) (last : Option ℕ) (low : ℕ) (filed : List NewsArticle) → 1 ≤ low
    → length (take (last_in last (length filed) + 1 - max first low) (drop (max first low - 1) filed))
    ≡ last_in last (length filed) + 1 - max first low
taken_size first last low filed some =
    omega (
      arith,
      length-take (last_in last (length filed) + 1 - max first low) (drop (max first low - 1) filed),
      length-drop (max first low - 1) filed,
      last_within last (length filed),
      some,
    )
  where
    last_within : (last : Option ℕ) (high : ℕ) → last_in last high ≤ high
    last_within None high = omega arith
    last_within (Some l) high = omega arith

-- a line for each number
sent_numbers : (a : ℕ) (xs : List NewsArticle) → a + length xs ≤ 2 ^ 64
    → flat_map stuffed_line (map line (map (λ (p : ℕ × NewsArticle). decimal p.0) (enumerate_from a xs))) ≡ number_lines a (length xs)
sent_numbers a [] small = refl
sent_numbers a (x ∷ xs) small =
    (λ i. number_plain a (omega (arith, small)) i ++ sent_numbers (a + 1) xs (omega (arith, small)) i)

pub numbers_sent : (r : Range) (low high : ℕ) (c : Contents) → low ≡ c.low → high ≡ length c.filed → 1 ≤ low
    → first_in r low + count_in r low high ≤ 2 ^ 64
    → flat_map stuffed_line (map line (numbers_in r c)) ≡ number_lines (first_in r low) (count_in r low high)
numbers_sent r low high c low_is high_is some small =
    let one : 1 ≤ c.low = omega (arith, low_is, some) in
    let size = taken_size r.first r.last c.low c.filed one in
    let fits : max r.first c.low + count_in r c.low (length c.filed) ≤ 2 ^ 64 =
    transport (λ i. first_in r (low_is i) + count_in r (low_is i) (high_is i) ≤ 2 ^ 64) small in
    ap (λ ps. flat_map stuffed_line (map line (map (λ (p : ℕ × NewsArticle). decimal p.0) ps))) (ranged r.first r.last c.low c.filed one)
    ∙ sent_numbers (max r.first c.low) _ (omega (arith, size, fits))
    ∙ ap (number_lines (max r.first c.low)) size
    ∙ (λ i. number_lines (first_in r (sym low_is i)) (count_in r (sym low_is i) (sym high_is i)))

-- the overview of a range
or_none : (x : Session) (ls : List Octets) → 0 < length ls → overview_or_none x ls ≡ says x (block overview_follows ls)
or_none x [] some = absurd (omega (arith, some))
or_none x (l ∷ ls) some = refl

none_over : (x : Session) (ls : List Octets) → length ls ≡ 0 → overview_or_none x ls ≡ says x no_such_number
none_over x [] none = refl
none_over x (l ∷ ls) none = absurd (omega (arith, none))

lines_size : (a : ℕ) (xs : List NewsArticle)
    → length (map (λ (p : ℕ × NewsArticle). overview_line p.0 p.1.text) (enumerate_from a xs)) ≡ length xs
lines_size a [] = refl
lines_size a (x ∷ xs) = ap suc (lines_size (a + 1) xs)

abbrev lines_in : Range → Contents → List Octets
lines_in r c = map (λ p. overview_line p.0 p.1.text) (filter (λ p. is_in_range r p.0) (numbered_articles c))

size_is : (r : Range) (low high : ℕ) (c : Contents) → low ≡ c.low → high ≡ length c.filed → 1 ≤ low
    → length (lines_in r c) ≡ count_in r low high
size_is r low high c low_is high_is some =
    let one : 1 ≤ c.low = omega (arith, low_is, some) in
    ap (λ ps. length (map (λ (p : ℕ × NewsArticle). overview_line p.0 p.1.text) ps)) (ranged r.first r.last c.low c.filed one)
    ∙ lines_size (max r.first c.low) _
    ∙ taken_size r.first r.last c.low c.filed one
    ∙ (λ i. count_in r (sym low_is i) (sym high_is i))

pub nothing_over : (x : Session) (r : Range) (low high : ℕ) (c : Contents) → low ≡ c.low → high ≡ length c.filed → 1 ≤ low
    → count_in r low high ≡ 0 → over_range x r c ≡ says x no_such_number
nothing_over x r low high c low_is high_is some none = none_over x (lines_in r c) (size_is r low high c low_is high_is some ∙ none)

pub some_over : (x : Session) (r : Range) (low high : ℕ) (c : Contents) → low ≡ c.low → high ≡ length c.filed → 1 ≤ low
    → length c.filed + 1 < 2 ^ 64 → 0 < count_in r low high
    → over_range x r c ≡ says x (line overview_follows ++
    (flat_map (λ (p : ℕ × NewsArticle). line (overview_line p.0 p.1.text))
    (enumerate_from (max r.first c.low)
    (take (last_in r.last (length c.filed) + 1 - max r.first c.low) (drop (max r.first c.low - 1) c.filed))) ++ dot_line))
some_over x r low high c low_is high_is some small any =
    let one : 1 ≤ c.low = omega (arith, low_is, some) in
    let taken : List NewsArticle = take (last_in r.last (length c.filed) + 1 - max r.first c.low) (drop (max r.first c.low - 1) c.filed) in
    let size : length taken ≡ last_in r.last (length c.filed) + 1 - max r.first c.low = taken_size r.first r.last c.low c.filed one in
    let count : count_in r low high ≡ last_in r.last (length c.filed) + 1 - max r.first c.low = (λ i. count_in r (low_is i) (high_is i)) in
    let bound : max r.first c.low + length taken ≤ 2 ^ 64 = omega (arith, size, count, any, last_small r.last (length c.filed), small) in
    or_none x (lines_in r c) (omega (arith, size_is r low high c low_is high_is some, any))
    ∙ ap (λ ps. says x (block overview_follows (map (λ (p : ℕ × NewsArticle). overview_line p.0 p.1.text) ps)))
    (ranged r.first r.last c.low c.filed one)
    ∙ ap (λ os. says x (line overview_follows ++ (os ++ dot_line))) (overviews_plain (max r.first c.low) taken bound)
  where
    last_small : (last : Option ℕ) (high : ℕ) → last_in last high ≤ high
    last_small None high = omega arith
    last_small (Some l) high = omega arith

-- the answer to LISTGROUP
pub listed_answer : (x : Session) (r : Range) (g : Octets) (c : Contents) (low high : ℕ) (reply : Octets) (next : Session) → low ≡ c.low
    → high ≡ length c.filed → 1 ≤ low
    → first_in r low + count_in r low high ≤ 2 ^ 64
    → reply ≡ counted low high g ++ line (codes " list follows") ++ (number_lines (first_in r low) (count_in r low high) ++ dot_line)
    → next ≡ with_group x g low (high + 1 - low)
    → replied reply next ≡ listgroup_answer x r g c
listed_answer x r g c low high reply next low_is high_is some small reply_is next_is =
    let head : Octets = counted low high g in
    let numbers : Octets = number_lines (first_in r low) (count_in r low high) in
    let words : reply ≡ line (head ++ codes " list follows") ++ (numbers ++ dot_line) =
    reply_is ∙ ap (λ os. os ++ (numbers ++ dot_line)) (sym (append_assoc head (codes " list follows") crlf)) in
    let sent : numbers ≡ flat_map stuffed_line (map line (numbers_in r c)) = sym (numbers_sent r low high c low_is high_is some small) in
    let all : reply ≡ block (counted c.low (length c.filed) g ++ codes " list follows") (numbers_in r c) =
    words ∙ (λ i. line (counted (low_is i) (high_is i) g ++ codes " list follows") ++ (sent i ++ dot_line)) in
    λ i. record { reply = all i; next = (next_is ∙ (λ j. with_group x g (low_is j) (high_is j + 1 - low_is j))) i; change = None }
