-- The index of a spool with one more change.
use Rattle.std.proofs.Common.{◌≡◌, ◌≤◌, ℕ, zero, suc, ◌+◌, ◌-◌, List, [], ◌∷◌, ◌++◌, length, get_or, map, take, drop, refl, sym, ◌∙◌, ap}
use Rattle.std.proofs.Common.{arith, Bool, true, false, cond, length-append}
use Rattle.std.specs.Prelude.{filter, filter_map, flat_map, bytes_eq, is_some, max, slice_get, zip, Option, Some, None}
use Rattle.std.specs.List.{list_any}
use Rattle.std.proofs.lemmas.Bool.{cond-true, cond-false, true≢false}
use Rattle.std.proofs.lemmas.List.{append-nil, append_assoc, map_push, take_at, drop-drop, drop_at}
use Rattle.std.proofs.lemmas.List.Elements.{filter-append}
use Rattle.std.proofs.lemmas.Option.{same_Some}
use Rattle.std.proofs.lemmas.Slice.Eq.{bytes_eq-Decides}
use Rattle.model.specs.Stream.{Octets}
use Rattle.model.specs.Indexed.{ends_from, group_index, GroupIndex, line_start, new_index, note_of, with_article, with_expiry}
use Rattle.model.specs.Lawful.{MayFollow, IsLawfulAfter, IsLawful}
use Rattle.model.specs.Spool.{Spool, SpoolEntry, entries_from, entries, NewsExpiry, NewsArticle, NewsGroup, expiries_of, filed_in, greatest}
use Rattle.model.specs.Spool.{is_here, is_name, last_naming, last_naming_one, low, names_one, expiry_made, articles, expiries, groups}
use Rattle.model.specs.Spool.{group_named, by_id, news_article, news_expiry}
use Rattle.model.specs.FileCalls.{next_line}
use Rattle.model.specs.SpoolFiles.{numbers_of, overview_lines, overview_of}
use Rattle.model.specs.Laws.Indexed.{ArticlesGrow, EmptyIndex, ExpiriesGrow, GroupsGrow, LinesStand, NotesGrow, NumbersAreWhole}
use Rattle.model.specs.declared.change.Change.{Change}
use Rattle.model.specs.declared.change.Change.TheVariants.{Group, Article, Expire}
use Rattle.model.specs.declared.change.NewGroup.{NewGroup}
use Rattle.model.proofs.Asking.{records_size}
use Rattle.model.proofs.Growing.{entries_push, filed_article, filed_no_more, lines_push, lines_size, named_front, new_has_nothing}
use Rattle.model.proofs.Joined.{bytes_differ}
use Rattle.model.proofs.Rising.{expiry_push}

-- ---- numbers and lines

zip_size : (xs : List NewsArticle) (ys : List Octets) → length xs ≡ length ys → length (zip xs ys) ≡ length xs
zip_size [] [] same = refl
zip_size [] (y ∷ ys) same = absurd (omega arith)
zip_size (x ∷ xs) [] same = absurd (omega arith)
zip_size (x ∷ xs) (y ∷ ys) same = ap suc (zip_size xs ys (omega arith))

pub numbers_size : NumbersAreWhole
unfolding numbers_of
numbers_size S g =
    let filed = filed_in S g in
    omega (arith, records_size 0 (zip filed (overview_lines filed)), zip_size filed (overview_lines filed) (lines_size filed))

-- where lines stand that begin after this many octets
abbrev start_from : ℕ → List ℕ → ℕ → ℕ
start_from start ends zero = start
start_from start ends (suc k) = get_or ends k 0

record StandsFrom (start : ℕ) (ls : List Octets) (k : ℕ) (line : Octets) : Type 0 where
  behind : start ≤ start_from start (ends_from start ls) k
  octets : take (length line) (drop (start_from start (ends_from start ls) k - start) (flat_map (λ l. l) ls)) ≡ line
  ends : get_or (ends_from start ls) k 0 ≡ start_from start (ends_from start ls) k + length line

next_start : (start n : ℕ) (ends : List ℕ) (k : ℕ) → start_from start (n ∷ ends) (suc k) ≡ start_from n ends k
next_start start n ends zero = refl
next_start start n ends (suc k) = refl

stands_from : (start : ℕ) (ls : List Octets) (k : ℕ) (line : Octets) → slice_get ls k ≡ Some line → StandsFrom start ls k line
stands_from start [] k line is = absurd (cc)
stands_from start (l ∷ ls) zero line is =
    let same : l ≡ line = same_Some l line is in
    let none : start - start ≡ 0 = omega arith in
    record {
      behind = omega arith;
      octets =
          ap (λ (n : ℕ). take (length line) (drop n (l ++ flat_map (λ x. x) ls))) none
          ∙ take_at l (flat_map (λ x. x) ls) (length line) (ap (λ (xs : Octets). length xs) same) ∙ same;
      ends = ap (λ (xs : Octets). start + length xs) same;
    }
stands_from start (l ∷ ls) (suc k) line is =
    let rest = stands_from (start + length l) ls k line is in
    let later = ends_from (start + length l) ls in
    let at : start_from start ((start + length l) ∷ later) (suc k) ≡ start_from (start + length l) later k =
    next_start start (start + length l) later k in
    let far : start_from start ((start + length l) ∷ later) (suc k) - start
    ≡ length l + (start_from (start + length l) later k - (start + length l)) = omega (arith, at, rest.behind) in
    record {
      behind = omega (arith, at, rest.behind);
      octets =
          ap (λ (n : ℕ). take (length line) (drop n (l ++ flat_map (λ x. x) ls))) far
          ∙ ap (take (length line)) (sym (drop-drop (start_from (start + length l) later k - (start + length l)) (length l)
          (l ++ flat_map (λ x. x) ls)) ∙ ap (drop (start_from (start + length l) later k - (start + length l)))
          (drop_at l (flat_map (λ x. x) ls) (length l) refl))
          ∙ rest.octets;
      ends = rest.ends ∙ ap (λ (n : ℕ). n + length line) (sym at);
    }

first_start : (ends : List ℕ) (k : ℕ) → line_start ends k ≡ start_from 0 ends k
first_start ends zero = refl
first_start ends (suc k) = refl

pub lines_stand : LinesStand
unfolding overview_of
lines_stand S g k line is =
    let ls = overview_lines (filed_in S g) in
    let its = stands_from 0 ls k line is in
    let at = first_start (ends_from 0 ls) k in
    let from : line_start (ends_from 0 ls) k ≡ start_from 0 (ends_from 0 ls) k - 0 = omega (arith, at) in (
      ap (λ (n : ℕ). take (length line) (drop n (flat_map (λ l. l) ls))) from ∙ its.octets,
      its.ends
          ∙ ap (λ (n : ℕ). n + length line) (sym at),
    )

ends_push : (start : ℕ) (ls : List Octets) (line : Octets)
    → ends_from start (ls ++ line ∷ []) ≡ ends_from start ls ++ (start + length (flat_map (λ l. l) ls) + length line) ∷ []
ends_push start [] line = let same : start + length line ≡ start + 0 + length line = omega arith in ap (λ (n : ℕ). n ∷ []) same
ends_push start (l ∷ ls) line =
    let same : start + length l + length (flat_map (λ x. x) ls) + length line ≡ start + length (l ++ flat_map (λ x. x) ls) + length line =
    omega (arith, length-append l (flat_map (λ x. x) ls)) in
    ap (λ (ns : List ℕ). (start + length l) ∷ ns) (ends_push (start + length l) ls line
    ∙ ap (λ (n : ℕ). ends_from (start + length l) ls ++ n ∷ []) same)

-- ---- the last serial

pub greatest_more : (ns : List ℕ) (n : ℕ) → greatest (ns ++ n ∷ []) ≡ max (greatest ns) n
greatest_more [] n = omega arith
greatest_more (m ∷ ns) n = ap (max m) (greatest_more ns n) ∙ omega arith

greatest_push : (ns : List ℕ) (m : ℕ) → greatest ns ≤ m → greatest (ns ++ m ∷ []) ≡ m
greatest_push ns m small = greatest_more ns m ∙ omega (arith, small)

abbrev serials_of : (Octets → Bool) → List SpoolEntry → List ℕ
serials_of test es = map (λ (e : SpoolEntry). e.serial) (filter (λ (e : SpoolEntry). names_one test e.change) es)

serials_most : (test : Octets → Bool) (n : ℕ) (S : Spool) → greatest (serials_of test (entries_from n S)) ≤ length S + n
serials_most test n [] = omega arith
serials_most test n (c ∷ S) = by_test (names_one test c) (serials_most test (suc n) S) where
  later : List SpoolEntry
  later = filter (λ (e : SpoolEntry). names_one test e.change) (entries_from (suc n) S)

  by_test : (b : Bool) → greatest (map (λ (e : SpoolEntry). e.serial) later) ≤ length S + suc n
      → greatest (map (λ (e : SpoolEntry). e.serial) (cond b (record { serial = n; change = c } ∷ later) later)) ≤ suc (length S) + n
  by_test true small = omega arith
  by_test false small = omega arith

last_push : (S : Spool) (c : Change) (test : Octets → Bool)
    → last_naming_one (S ++ c ∷ []) test ≡ cond (names_one test c) (length S + 1) (last_naming_one S test)
unfolding last_naming_one entries
last_push S c test =
    let e : SpoolEntry = record { serial = length S + 1; change = c } in
    ap (λ es. greatest (serials_of test es)) (entries_push 1 S c)
    ∙ ap (λ (es : List SpoolEntry). greatest (map (λ (x : SpoolEntry). x.serial) es))
    (filter-append (λ (x : SpoolEntry). names_one test x.change) (entries_from 1 S) (e ∷ []))
    ∙ by_test (names_one test c)
  where
    front : List SpoolEntry
    front = filter (λ (x : SpoolEntry). names_one test x.change) (entries_from 1 S)

    its : SpoolEntry
    its = record { serial = length S + 1; change = c }

    by_test : (b : Bool) → greatest (map (λ (x : SpoolEntry). x.serial) (front ++ cond b (its ∷ []) []))
        ≡ cond b (length S + 1) (greatest (map (λ (x : SpoolEntry). x.serial) front))
    by_test false = ap (λ (es : List SpoolEntry). greatest (map (λ (x : SpoolEntry). x.serial) es)) (append-nil front)
    by_test true = ap greatest (map_push (λ (x : SpoolEntry). x.serial) front its)
        ∙ greatest_push (map (λ (x : SpoolEntry). x.serial) front) (length S + 1) (serials_most test 1 S)

-- ---- groups

expired_same : (S : Spool) (g : Octets) (c : Change) → filter_map expiry_made (record { serial = length S + 1; change = c } ∷ []) ≡ []
    → expiries_of (S ++ c ∷ []) g ≡ expiries_of S g
expired_same S g c none =
    expiry_push S g c ∙ ap (λ (es : List NewsExpiry). expiries_of S g ++ filter (λ (e : NewsExpiry). is_name g e.group) es) none
    ∙ append-nil (expiries_of S g)

pub notes_grow : NotesGrow
unfolding entries
notes_grow S c = ap (map note_of) (entries_push 1 S c) ∙ map_push note_of (entries_from 1 S) (record { serial = length S + 1; change = c })

-- the parts of a group's index
made_index : (i j : GroupIndex) → i.group ≡ j.group → i.filed ≡ j.filed → i.ends ≡ j.ends → i.low ≡ j.low → i.expired ≡ j.expired
    → i.last ≡ j.last → i ≡ j
made_index i j group filed ends low' expired last = λ t. record {
  group = group t;
  filed = filed t;
  ends = ends t;
  low = low' t;
  expired = expired t;
  last = last t;
}

index_parts : (S R : Spool) (g : NewsGroup) → filed_in R g.name ≡ filed_in S g.name → expiries_of R g.name ≡ expiries_of S g.name
    → last_naming R g.name ≡ last_naming S g.name → group_index R g ≡ group_index S g
index_parts S R g filed expired last =
    made_index (group_index R g) (group_index S g) refl (ap (map (λ (a : NewsArticle). a.serial)) filed)
    (ap (λ (f : List NewsArticle). ends_from 0 (overview_lines f)) filed)
    (ap (λ (es : List NewsExpiry). 1 + greatest (map (λ (e : NewsExpiry). e.number) es)) expired) expired last

size : (filed : List NewsArticle) (line : Octets)
    → 0 + length (flat_map (λ l. l) (overview_lines filed)) + length line ≡ length (overview_of filed) + length line
unfolding overview_of
size filed line = omega arith

pub articles_grow : ArticlesGrow
articles_grow S filing g =
    by_test (list_any (is_name g.name) filing.envelope.groups) (filed_article S g.name filing)
    (last_push S (Article filing) (is_name g.name)) where
      R : Spool
      R = S ++ Article filing ∷ []

      its : NewsArticle
      its = news_article (length S + 1) filing

      expired : expiries_of R g.name ≡ expiries_of S g.name
      expired = expired_same S g.name (Article filing) refl

      by_test : (b : Bool) → filed_in R g.name ≡ filed_in S g.name ++ cond b (its ∷ []) []
          → last_naming R g.name ≡ cond b (length S + 1) (last_naming S g.name)
          → group_index R g ≡ cond b (with_article S filing.text (group_index S g)) (group_index S g)
      by_test false filed last = index_parts S R g (filed ∙ append-nil (filed_in S g.name)) expired last
      by_test true filed last =
          made_index (group_index R g) (with_article S filing.text (group_index S g)) refl
          (ap (map (λ (a : NewsArticle). a.serial)) filed ∙ map_push (λ (a : NewsArticle). a.serial) (filed_in S g.name) its)
          (ap (λ (f : List NewsArticle). ends_from 0 (overview_lines f)) filed ∙ ap (ends_from 0) (lines_push (filed_in S g.name) its)
          ∙ ends_push 0 (overview_lines (filed_in S g.name)) (next_line S filing.text g.name)
          ∙ ap (λ (n : ℕ). ends_from 0 (overview_lines (filed_in S g.name)) ++ n ∷ [])
          (size (filed_in S g.name) (next_line S filing.text g.name)))
          (ap (λ (es : List NewsExpiry). 1 + greatest (map (λ (e : NewsExpiry). e.number) es)) expired) expired last

pub expiries_grow : ExpiriesGrow
expiries_grow host S expiry g may =
    by_test (bytes_eq expiry.group g.name) refl (expiry_push S g.name (Expire expiry)) (last_push S (Expire expiry) (is_name g.name)) where
      R : Spool
      R = S ++ Expire expiry ∷ []

      its : NewsExpiry
      its = news_expiry (length S + 1) expiry

      filed : filed_in R g.name ≡ filed_in S g.name
      filed = filed_no_more S g.name (Expire expiry) refl

      by_test : (b : Bool) → bytes_eq expiry.group g.name ≡ b → expiries_of R g.name ≡ expiries_of S g.name ++ cond b (its ∷ []) []
          → last_naming R g.name ≡ cond b (length S + 1) (last_naming S g.name)
          → group_index R g ≡ cond b (with_expiry S expiry.number (group_index S g)) (group_index S g)
      by_test false is expired last = index_parts S R g filed (expired ∙ append-nil (expiries_of S g.name)) last
      by_test true is expired last =
          let same : expiry.group ≡ g.name = (bytes_eq-Decides expiry.group g.name).0 is in
          let small : greatest (map (λ (e : NewsExpiry). e.number) (expiries_of S g.name)) ≤ expiry.number =
          omega (arith, may.from_low, ap (low S) same) in
          let named : NewsExpiry = record its { group = g.name } in
          let all : expiries_of R g.name ≡ expiries_of S g.name ++ named ∷ [] =
          expired ∙ ap (λ (n : Octets). expiries_of S g.name ++ record its { group = n } ∷ []) same in
          made_index (group_index R g) (with_expiry S expiry.number (group_index S g)) refl (ap (map (λ (a : NewsArticle). a.serial)) filed)
          (ap (λ (f : List NewsArticle). ends_from 0 (overview_lines f)) filed)
          (ap (λ (ns : List ℕ). 1 + greatest ns) (ap (map (λ (e : NewsExpiry). e.number)) all
          ∙ map_push (λ (e : NewsExpiry). e.number) (expiries_of S g.name) named)
          ∙ ap (λ (n : ℕ). 1 + n) (greatest_push (map (λ (e : NewsExpiry). e.number) (expiries_of S g.name)) expiry.number small))
          all last

pub nothing_expired : (host : Octets) (before cs : Spool) (n : ℕ) (name : Octets) → IsLawfulAfter host before cs
    → group_named (before ++ cs) name ≡ None
    → filter (λ (e : NewsExpiry). is_name name e.group) (filter_map expiry_made (entries_from n cs)) ≡ []
nothing_expired host before [] n name lawful none = refl
nothing_expired host before (Group created ∷ cs) n name lawful none =
    nothing_expired host (before ++ Group created ∷ []) cs (suc n) name lawful.1 (rw append_assoc none)
nothing_expired host before (Article filing ∷ cs) n name lawful none =
    nothing_expired host (before ++ Article filing ∷ []) cs (suc n) name lawful.1 (rw append_assoc none)
nothing_expired host before (Expire expiry ∷ cs) n name lawful none =
    let absent : is_here before name ≡ false =
    ap (λ (o : Option NewsGroup). is_some o) (named_front before (Expire expiry ∷ cs) name none) in
    let other : bytes_eq expiry.group name ≡ false =
    bytes_differ expiry.group name (λ same. true≢false (sym lawful.0.here ∙ ap (is_here before) same ∙ absent)) in
    let rest = nothing_expired host (before ++ Expire expiry ∷ []) cs (suc n) name lawful.1 (rw append_assoc none) in
    cond-false (bytes_eq expiry.group name) _ _ other ∙ rest

pub new_has_expired : (host : Octets) (S : Spool) (name : Octets) → IsLawful host S → group_named S name ≡ None → expiries_of S name ≡ []
unfolding expiries_of expiries entries
new_has_expired host S name lawful none = nothing_expired host [] S 1 name lawful none

pub groups_grow : GroupsGrow
groups_grow = record { others = others; its_own = its_own } where
  others : (S : Spool) (created : NewGroup) (g : NewsGroup) → bytes_eq created.name g.name ≡ false
      → group_index (S ++ Group created ∷ []) g ≡ group_index S g
  others S created g other =
      let c = Group created in
      index_parts S (S ++ c ∷ []) g (filed_no_more S g.name c refl) (expired_same S g.name c refl) (last_push S c (is_name g.name)
      ∙ cond-false (bytes_eq created.name g.name) (length S + 1) (last_naming S g.name) other)

  its_own : (host : Octets) (S : Spool) (created : NewGroup) (g : NewsGroup) → IsLawful host S → MayFollow host S (Group created)
      → g.name ≡ created.name → group_index (S ++ Group created ∷ []) g ≡ new_index S g
  its_own host S created g lawful may same =
      let c = Group created in
      let R = S ++ c ∷ [] in
      let none : group_named S g.name ≡ None = ap (group_named S) same ∙ may.new in
      let filed : filed_in R g.name ≡ [] = filed_no_more S g.name c refl ∙ new_has_nothing host S g.name lawful none in
      let expired : expiries_of R g.name ≡ [] = expired_same S g.name c refl ∙ new_has_expired host S g.name lawful none in
      let last : last_naming R g.name ≡ length S + 1 = last_push S c (is_name g.name)
      ∙ cond-true (bytes_eq created.name g.name) (length S + 1) (last_naming S g.name)
      ((bytes_eq-Decides created.name g.name).1 (sym same)) in
      made_index (group_index R g) (new_index S g) refl (ap (map (λ (a : NewsArticle). a.serial)) filed)
      (ap (λ (f : List NewsArticle). ends_from 0 (overview_lines f)) filed)
      (ap (λ (es : List NewsExpiry). 1 + greatest (map (λ (e : NewsExpiry). e.number) es)) expired) expired last

pub empty_index : EmptyIndex
unfolding groups group_named by_id articles entries
empty_index = record { notes_are = refl; groups_are = refl; names_are = λ name. refl; ids_are = λ wanted. refl }
