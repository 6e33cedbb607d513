-- Which articles are new, and their lines.
use Rattle.std.proofs.Common.{◌≡◌, ℕ, zero, suc, ◌+◌, ◌-◌, ◌<◌, ◌≤◌, List, [], ◌∷◌, ◌++◌, map, refl, sym, ◌∙◌, ap, subst, arith}
use Rattle.std.proofs.Common.{add-one, append-nil, inl, inr, Bool, true, false, cond, drop, length}
use Rattle.std.specs.Prelude.{◌==◌, ◌&&◌, ◌||◌, Contains, IfSome, filter, filter_map, find, flat_map, nat_le, slice_get}
use Rattle.std.specs.Prelude.{slice_index, take, Option, Some, None, ℤ, option_map, option_and_then, unwrap_or}
use Rattle.std.specs.List.{cons_option, list_any}
use Rattle.std.specs.Option.{option_to_list}
use Rattle.std.proofs.Math.Seq.{drop-nil}
use Rattle.std.proofs.lemmas.Bool.{and_from, and_parts, and_right, eq-eqb, eqb-true, le-leb, leb-false, leb-true, lt-leb, ne_eqb}
use Rattle.std.proofs.lemmas.Bool.{cases_lt, or_cases}
use Rattle.std.proofs.lemmas.List.{length-map, take_all}
use Rattle.std.proofs.lemmas.List.Concat.{flat_map-append}
use Rattle.std.proofs.lemmas.List.Elements.{filter-append}
use Rattle.std.proofs.lemmas.List.Folds.{list_any_at}
use Rattle.std.proofs.lemmas.Option.{same_Some, slice_get-map}
use Rattle.std.proofs.lemmas.Slice.Eq.{bytes_eq-Decides}
use Rattle.model.specs.Answer.{is_since}
use Rattle.model.specs.Article.{id}
use Rattle.model.specs.Indexed.{GroupIndex, group_index}
use Rattle.model.specs.Lawful.{IsLawful}
use Rattle.model.specs.Names.{wildmat_matches}
use Rattle.model.specs.Spool.{Spool, NewsArticle, NewsGroup, article_filed, articles, as_it_is, entries, entries_from, filed_in}
use Rattle.model.specs.Spool.{group_named, groups, is_name, low, news_article}
use Rattle.model.specs.Stream.{Octets, line}
use Rattle.model.specs.declared.change.Change.TheVariants.{Group, Article, Expire}
use Rattle.model.proofs.Rising.{filed_rise}
use Rattle.session_lookups.specs.Held.{article_with, groups_now}
use Rattle.session_lookups.specs.News.{is_new, new_lines}
use Rattle.spool_groups.specs.Finding.{EachRises, Rise, contains, is_matching}
use Rattle.spool_groups.proofs.Searching.{filter_mapped}
use Rattle.spool_groups.proofs.Lists.{any_mapped}
use Rattle.spool_index.specs.Finding.{is_still_in}
use Rattle.spool_index.specs.View.{IndexView, Indexes}
use Rattle.spool_index.proofs.Growing.{entries_count}
use Rattle.spool_index.proofs.Serials.{in_none, in_one, still_nowhere}

-- ---- whether one passes

bool_same : (a b : Bool) → (a ≡ true → b ≡ true) → (b ≡ true → a ≡ true) → a ≡ b
bool_same true true one two = refl
bool_same true false one two = sym (one refl)
bool_same false true one two = two refl
bool_same false false one two = refl

found_any : {X : Type 0} (p : X → Bool) (xs : List X) → list_any p xs ≡ true → (x : X) × (Contains xs x) × (p x ≡ true)
found_any p [] is = absurd (cc)
found_any {X} p (x ∷ xs) is = elim (or_cases (p x) (list_any p xs) is) [
  | inl here ↦ (x, (0, (omega arith), refl), here)
  | inr later ↦ (let rest = found_any p xs later in
      (rest.0, (suc rest.1.0, (let small = rest.1.1 in omega (arith, small)), rest.1.2), rest.2))
]

any_found : {X : Type 0} (p : X → Bool) (xs : List X) (x : X) → Contains xs x → p x ≡ true → list_any p xs ≡ true
any_found p xs x among is = list_any_at p xs among.0 x among.1 (ap p among.2 ∙ is)

any_none : {X : Type 0} (p : X → Bool) (xs : List X) → ((x : X) → p x ≡ false) → list_any p xs ≡ false
any_none p [] none = refl
any_none p (x ∷ xs) none = ap (λ (b : Bool). b || list_any p xs) (none x) ∙ any_none p xs none

any_same : {X : Type 0} (p q : X → Bool) (xs : List X) → ((x : X) → p x ≡ q x) → list_any p xs ≡ list_any q xs
any_same p q [] same = refl
any_same p q (x ∷ xs) same = λ i. same x i || any_same p q xs same i

-- ---- the number of an article among rising serials

abbrev upto : ℕ → List ℕ → ℕ
upto s ns = length (filter (λ n. nat_le n s) ns)

abbrev among : ℕ → List ℕ → Bool
among s ns = list_any (λ n. n == s) ns

none_upto : (s : ℕ) (ns : List ℕ) → ((j : ℕ) → j < length ns → s < slice_index ns j) → upto s ns ≡ 0
none_upto s [] above = refl
none_upto s (n ∷ ns) above =
    ap (λ (b : Bool). length (cond b (n ∷ filter (λ m. nat_le m s) ns) (filter (λ m. nat_le m s) ns)))
    (lt-leb n s (above 0 (omega arith)))
    ∙ none_upto s ns (λ j small. above (suc j) (omega arith))

none_among : (s : ℕ) (ns : List ℕ) → ((j : ℕ) → j < length ns → s < slice_index ns j) → among s ns ≡ false
none_among s [] above = refl
none_among s (n ∷ ns) above =
    ap (λ (b : Bool). b || list_any (λ m. m == s) ns)
    (ne_eqb n s (λ same. let more : s < n = above 0 (omega arith) in absurd (omega (arith, same, more))))
    ∙ none_among s ns (λ j small. above (suc j) (omega arith))

some_upto : (s : ℕ) (ns : List ℕ) → among s ns ≡ true → 1 ≤ upto s ns
some_upto s [] is = absurd (cc)
some_upto s (n ∷ ns) is = elim (or_cases (n == s) (list_any (λ m. m == s) ns) is) [
  | inl here ↦ (
      let passes : nat_le n s ≡ true = (let same = eqb-true n s here in le-leb n s (omega (arith, same))) in
      let one : length (cond (nat_le n s) (n ∷ filter (λ m. nat_le m s) ns) (filter (λ m. nat_le m s) ns)) ≡ suc (upto s ns) =
      ap (λ (b : Bool). length (cond b (n ∷ filter (λ m. nat_le m s) ns) (filter (λ m. nat_le m s) ns))) passes in
      omega (arith, one))
  | inr later ↦ by_test (nat_le n s) (some_upto s ns later)
]
  where
    by_test : (b : Bool) → 1 ≤ length (filter (λ m. nat_le m s) ns)
        → 1 ≤ length (cond b (n ∷ filter (λ m. nat_le m s) ns) (filter (λ m. nat_le m s) ns))
    by_test true rest = omega (arith, rest)
    by_test false rest = rest

both_if : (a b : Bool) → (b ≡ true → a ≡ true) → b ≡ (a && b)
both_if true b is = refl
both_if false true is = sym (is refl)
both_if false false is = refl

rise_rest : (n : ℕ) (ns : List ℕ) → Rise (n ∷ ns) → Rise ns
rise_rest n ns rise i j less low = rise (suc i) (suc j) (omega arith) (omega arith)

le_suc : (a b : ℕ) → nat_le (suc a) (suc b) ≡ nat_le a b
le_suc a b = bool_same (nat_le (suc a) (suc b)) (nat_le a b)
    (λ is. let low = leb-true (suc a) (suc b) is in le-leb a b (omega (arith, low)))
    (λ is. let low = leb-true a b is in le-leb (suc a) (suc b) (omega (arith, low)))

-- without the first ones: a serial is there if it is among all of them, and its number is above the number of those
after_first : (s g : ℕ) (ns : List ℕ) → Rise ns → among s (drop g ns) ≡ (nat_le (suc g) (upto s ns) && among s ns)
after_first s g [] rise = ap (among s) (drop-nil g) ∙ sym (and_right (nat_le (suc g) 0) false refl)
after_first s zero (n ∷ ns) rise = both_if (nat_le 1 (upto s (n ∷ ns))) (among s (n ∷ ns))
    (λ is. le-leb 1 (upto s (n ∷ ns)) (some_upto s (n ∷ ns) is))
after_first s (suc g) (n ∷ ns) rise = after_first s g ns (rise_rest n ns rise) ∙ by_order (nat_le n s) refl (n == s) refl where
  later : (j : ℕ) → j < length ns → n < slice_index ns j
  later j small = rise 0 (suc j) (omega arith) (omega arith)

  none : s ≤ n → (nat_le (suc g) (upto s ns) && among s ns) ≡ false
  none low = and_right (nat_le (suc g) (upto s ns)) (among s ns)
      (none_among s ns (λ j small. let more = later j small in omega (arith, more)))

  by_order : (b : Bool) → nat_le n s ≡ b → (e : Bool) → (n == s) ≡ e
      → (nat_le (suc g) (upto s ns) && among s ns)
      ≡ (nat_le (suc (suc g)) (length (cond b (n ∷ filter (λ m. nat_le m s) ns) (filter (λ m. nat_le m s) ns))) && (e || among s ns))
  by_order true at true same =
      let is : n ≡ s = eqb-true n s same in
      none (omega (arith, is))
      ∙ sym (ap (λ (b : Bool). b && true) (lt-leb (suc (suc g)) (suc (upto s ns))
      (let few = none_upto s ns (λ j small. let more = later j small in omega (arith, more, is)) in omega (arith, few))))
  by_order true at false same = ap (λ (b : Bool). b && among s ns) (sym (le_suc (suc g) (upto s ns)))
  by_order false at e same =
      let above : s < n = leb-false n s at in
      none (omega (arith, above))
      ∙ sym (ap (λ (b : Bool). b && (e || among s ns)) (lt-leb (suc (suc g)) (upto s ns)
      (let few = none_upto s ns (λ j small. let more = later j small in omega (arith, more, above)) in omega (arith, few))))

-- ---- the serials of articles

abbrev passes : (NewsArticle → Bool) → Option NewsArticle → Bool
passes p None = false
passes p (Some a) = p a

abbrev serials_from : (NewsArticle → Bool) → ℕ → Spool → List ℕ
serials_from p n cs = map (λ (a : NewsArticle). a.serial) (filter p (filter_map article_filed (entries_from n cs)))

no_earlier : (p : NewsArticle → Bool) (s n : ℕ) (cs : Spool) → s < n → among s (serials_from p n cs) ≡ false
no_earlier p s n [] low = refl
no_earlier p s n (Group created ∷ cs) low = no_earlier p s (suc n) cs (omega arith)
no_earlier p s n (Expire expiry ∷ cs) low = no_earlier p s (suc n) cs (omega arith)
no_earlier p s n (Article filing ∷ cs) low =
    by_test (p (news_article n filing)) (no_earlier p s (suc n) cs (omega arith))
  where
    rest : List NewsArticle
    rest = filter p (filter_map article_filed (entries_from (suc n) cs))

    by_test : (b : Bool) → list_any (λ m. m == s) (map (λ (a : NewsArticle). a.serial) rest) ≡ false
        → list_any (λ m. m == s) (map (λ (a : NewsArticle). a.serial)
        (cond b (news_article n filing ∷ rest) rest)) ≡ false
    by_test true none = ap (λ (b : Bool). b || list_any (λ m. m == s) (map (λ (a : NewsArticle). a.serial) rest))
        (ne_eqb n s (λ same. absurd (omega (arith, same, low)))) ∙ none
    by_test false none = none

serial_there : (p : NewsArticle → Bool) (s n k : ℕ) (cs : Spool) → s ≡ n + k
    → among s (serials_from p n cs) ≡ passes p (option_and_then article_filed (slice_get (entries_from n cs) k))
serial_there p s n k [] is = refl
serial_there p s n zero (Group created ∷ cs) is = no_earlier p s (suc n) cs (omega (arith, is))
serial_there p s n (suc k) (Group created ∷ cs) is = serial_there p s (suc n) k cs (omega (arith, is))
serial_there p s n zero (Expire expiry ∷ cs) is = no_earlier p s (suc n) cs (omega (arith, is))
serial_there p s n (suc k) (Expire expiry ∷ cs) is = serial_there p s (suc n) k cs (omega (arith, is))
serial_there p s n zero (Article filing ∷ cs) is =
    by_test (p (news_article n filing)) (no_earlier p s (suc n) cs (omega (arith, is)))
  where
    rest : List NewsArticle
    rest = filter p (filter_map article_filed (entries_from (suc n) cs))

    by_test : (b : Bool) → list_any (λ m. m == s) (map (λ (a : NewsArticle). a.serial) rest) ≡ false
        → list_any (λ m. m == s) (map (λ (a : NewsArticle). a.serial)
        (cond b (news_article n filing ∷ rest) rest)) ≡ b
    by_test true none = ap (λ (b : Bool). b || list_any (λ m. m == s) (map (λ (a : NewsArticle). a.serial) rest))
        (eq-eqb n s (omega (arith, is)))
    by_test false none = none
serial_there p s n (suc k) (Article filing ∷ cs) is =
    by_test (p (news_article n filing))
    ∙ serial_there p s (suc n) k cs (omega (arith, is))
  where
    rest : List NewsArticle
    rest = filter p (filter_map article_filed (entries_from (suc n) cs))

    by_test : (b : Bool) → list_any (λ m. m == s) (map (λ (a : NewsArticle). a.serial)
        (cond b (news_article n filing ∷ rest) rest))
        ≡ list_any (λ m. m == s) (map (λ (a : NewsArticle). a.serial) rest)
    by_test true = ap (λ (b : Bool). b || list_any (λ m. m == s) (map (λ (a : NewsArticle). a.serial) rest))
        (ne_eqb n s (λ same. absurd (omega (arith, same, is))))
    by_test false = refl

serial_among : (p : NewsArticle → Bool) (S : Spool) (s : ℕ)
    → among s (map (λ (a : NewsArticle). a.serial) (filter p (articles S))) ≡ passes p (article_with S s)
unfolding articles entries
serial_among p S zero = no_earlier p 0 1 S (omega arith)
serial_among p S (suc k) = serial_there p (suc k) 1 k S (omega arith)

-- ---- which group contains an article

group_contains : (S : Spool) (g : NewsGroup) (s : ℕ)
    → contains s (group_index S g) ≡ (is_still_in S s g.name && passes (λ (a : NewsArticle). list_any (is_name g.name) a.groups)
    (article_with S s))
unfolding filed_in
group_contains S g s =
    let ns : List ℕ = map (λ (a : NewsArticle). a.serial) (filed_in S g.name) in
    let rise : Rise ns = λ i j less small.
    filed_rise S g.name i j less (omega (arith, small, length-map (filed_in S g.name) (λ (a : NewsArticle). a.serial))) in
    let first : suc (low S g.name - 1) ≡ low S g.name = omega arith in
    after_first s (low S g.name - 1) ns rise
    ∙ (λ i. nat_le (first i) (filter_mapped (λ (a : NewsArticle). a.serial) (λ n. nat_le n s) (filed_in S g.name) i) && among s ns)
    ∙ ap (λ (b : Bool). is_still_in S s g.name && b) (serial_among (λ (a : NewsArticle). list_any (is_name g.name) a.groups) S s)

found_some : {X : Type 0} (p : X → Bool) (xs : List X) (x : X) → find p xs ≡ Some x → list_any p xs ≡ true
found_some p [] x is = absurd (cc)
found_some {X} p (y ∷ ys) x is = by_test (p y) is (λ later. found_some p ys x later) where
  by_test : (b : Bool) → cond b (Some y) (find p ys) ≡ Some x → (find p ys ≡ Some x → list_any p ys ≡ true) → (b || list_any p ys) ≡ true
  by_test true found rest = refl
  by_test false found rest = rest found

-- a name among these that passes is the name of a group among these
by_group : (T : Octets → Bool) (gs : List NewsGroup) (names : List Octets)
    → ((n : Octets) → T n ≡ true → list_any (λ (g : NewsGroup). is_name n g.name) gs ≡ true)
    → list_any (λ (g : NewsGroup). T g.name && list_any (is_name g.name) names) gs ≡ list_any T names
by_group T gs names here = bool_same (list_any (λ (g : NewsGroup). T g.name && list_any (is_name g.name) names) gs) (list_any T names)
    (λ is.
    let group = found_any (λ (g : NewsGroup). T g.name && list_any (is_name g.name) names) gs is in
    let both = and_parts (T group.0.name) (list_any (is_name group.0.name) names) group.2 in
    let name = found_any (is_name group.0.name) names both.1 in
    any_found T names name.0 name.1 (ap T ((bytes_eq-Decides name.0 group.0.name).0 name.2) ∙ both.0))
    (λ is.
    let name = found_any T names is in
    let group = found_any (λ (g : NewsGroup). is_name name.0 g.name) gs (here name.0 name.2) in
    let same : group.0.name ≡ name.0 = (bytes_eq-Decides group.0.name name.0).0 group.2 in
    any_found (λ (g : NewsGroup). T g.name && list_any (is_name g.name) names) gs group.0 group.1
    (and_from (T group.0.name) (list_any (is_name group.0.name) names) (ap T same ∙ name.2)
    (any_found (is_name group.0.name) names name.0 name.1 ((bytes_eq-Decides name.0 group.0.name).1 (sym same)))))

module _ (host : Octets) (S : Spool) (lawful : IsLawful host S) (w : Octets → Bool) (s : ℕ) where
  abbrev still : Octets → Bool
  still n = w n && is_still_in S s n

  still_here : (n : Octets) → still n ≡ true → list_any (λ (g : NewsGroup). is_name n g.name) (groups S) ≡ true
  unfolding group_named
  still_here n is = by_found (group_named S n) refl where
    by_found : (o : Option NewsGroup) → group_named S n ≡ o → list_any (λ (g : NewsGroup). is_name n g.name) (groups S) ≡ true
    by_found None none =
        let nowhere : false ≡ is_still_in S s n =
        still_nowhere host S n s lawful (sym (ap (option_map (group_index S)) none)) in
        absurd (let yes : is_still_in S s n ≡ true = (and_parts (w n) (is_still_in S s n) is).1 in
        let clash : false ≡ true = nowhere ∙ yes in cc)
    by_found (Some g) found = found_some (λ (h : NewsGroup). is_name n h.name) (groups S) g found

  each_group : (o : Option NewsArticle) → article_with S s ≡ o → (g : NewsGroup)
      → (w g.name && contains s (group_index S g))
      ≡ (still g.name && passes (λ (a : NewsArticle). list_any (is_name g.name) a.groups) o)
  each_group o at g = ap (λ (b : Bool). w g.name && b) (group_contains S g s
      ∙ ap (λ (x : Option NewsArticle). is_still_in S s g.name && passes (λ (a : NewsArticle). list_any (is_name g.name) a.groups) x) at)
      ∙ and_assoc (w g.name) (is_still_in S s g.name) (passes (λ (a : NewsArticle). list_any (is_name g.name) a.groups) o)
    where
      and_assoc : (a b c : Bool) → (a && (b && c)) ≡ ((a && b) && c)
      and_assoc true b c = refl
      and_assoc false b c = refl

  by_article : (o : Option NewsArticle) → article_with S s ≡ o
      → list_any (λ (g : NewsGroup). w g.name && contains s (group_index S g)) (groups S) ≡ list_any w (groups_now S s)
  by_article None at =
      any_none (λ (g : NewsGroup). w g.name && contains s (group_index S g)) (groups S)
      (λ g. each_group None at g ∙ and_right (still g.name) false refl)
      ∙ in_none S s w (sym (ap (option_map (λ (a : NewsArticle). a.groups)) at))
  by_article (Some a) at =
      any_same (λ (g : NewsGroup). w g.name && contains s (group_index S g))
      (λ (g : NewsGroup). still g.name && list_any (is_name g.name) a.groups) (groups S) (each_group (Some a) at)
      ∙ by_group still (groups S) a.groups still_here
      ∙ in_one S s a.groups w (sym (ap (option_map (λ (b : NewsArticle). b.groups)) at))

-- the groups of the index that match and contain it are those that it is in
pub matching : (host : Octets) (S : Spool) (x : IndexView) (wildmat : Octets) (s : ℕ) → IsLawful host S → Indexes S x
    → list_any (is_matching wildmat s) x.groups ≡ list_any (wildmat_matches wildmat) (groups_now S s)
matching host S x wildmat s lawful is =
    ap (list_any (is_matching wildmat s)) is.groups_are
    ∙ any_mapped (group_index S) (is_matching wildmat s) (groups S)
    ∙ by_article host S lawful (wildmat_matches wildmat) s (article_with S s) refl

pub groups_rise : (S : Spool) (x : IndexView) → Indexes S x → EachRises x.groups
groups_rise S x is k i at =
    by_found (slice_get (groups S) k) (sym (slice_get-map (group_index S) (groups S) k)
    ∙ ap (λ (gs : List GroupIndex). slice_get gs k) (sym is.groups_are) ∙ at)
  where
    by_found : (o : Option NewsGroup) → option_map (group_index S) o ≡ Some i → Rise i.filed
    by_found None none = absurd (cc)
    by_found (Some g) some = subst (λ (j : GroupIndex). Rise j.filed) (same_Some (group_index S g) i some)
        (λ j k less small. filed_rise S g.name j k less
        (omega (arith, small, length-map (filed_in S g.name) (λ (a : NewsArticle). a.serial))))

-- ---- the line of one article

pub some_line : (S : Spool) (w : Octets) (from : ℤ) (o : Option NewsArticle) (moment : ℕ)
    → Some moment ≡ option_map (λ (a : NewsArticle). a.moment) o
    → is_since from moment ≡ true → list_any (wildmat_matches w) (unwrap_or (option_map (λ (a : NewsArticle). (as_it_is S a).groups) o) [])
    ≡ true
    → new_lines S w from (option_to_list o) ≡ line (id (unwrap_or (option_map (λ (a : NewsArticle). a.text) o) []))
some_line S w from None moment is since in_one = absurd (cc)
some_line S w from (Some a) moment is since in_one =
    let same : moment ≡ a.moment = cc in
    ap (λ b. flat_map (λ (a : NewsArticle). line (id a.text)) (cond b (a ∷ []) [])) ((λ i. in_one i && is_since from (sym same i)) ∙ since)
    ∙ append-nil (line (id a.text))

pub no_line : (S : Spool) (w : Octets) (from : ℤ) (o : Option NewsArticle) (moment : ℕ)
    → Some moment ≡ option_map (λ (a : NewsArticle). a.moment) o
    → (is_since from moment && list_any (wildmat_matches w) (unwrap_or (option_map (λ (a : NewsArticle). (as_it_is S a).groups) o) []))
    ≡ false
    → new_lines S w from (option_to_list o) ≡ []
no_line S w from None moment is fails = refl
no_line S w from (Some a) moment is fails =
    let same : moment ≡ a.moment = cc in
    ap (λ b. flat_map (λ (a : NewsArticle). line (id a.text)) (cond b (a ∷ []) []))
    (swapped (list_any (wildmat_matches w) (as_it_is S a).groups) (is_since from a.moment)
    ((λ i. is_since from (sym same i) && list_any (wildmat_matches w) (as_it_is S a).groups) ∙ fails))
  where
    swapped : (a b : Bool) → (b && a) ≡ false → (a && b) ≡ false
    swapped true true is = is
    swapped true false is = refl
    swapped false b is = refl

pub none_line : (S : Spool) (w : Octets) (from : ℤ) (o : Option NewsArticle) → None ≡ option_map (λ (a : NewsArticle). a.moment) o
    → new_lines S w from (option_to_list o) ≡ []
none_line S w from None is = refl
none_line S w from (Some a) is = absurd (cc)

-- ---- one serial more

filter_map_more : {X Y : Type 0} (h : X → Option Y) (xs : List X) (n : ℕ)
    → filter_map h (take (suc n) xs) ≡ filter_map h (take n xs) ++ option_to_list (option_and_then h (slice_get xs n))
filter_map_more h [] zero = refl
filter_map_more h [] (suc n) = refl
filter_map_more {X} {Y} h (x ∷ xs) zero = first (h x) where
  first : (o : Option Y) → cons_option o [] ≡ option_to_list o
  first None = refl
  first (Some y) = refl
filter_map_more {X} {Y} h (x ∷ xs) (suc n) = ap (cons_option (h x)) (filter_map_more h xs n)
    ∙ first (h x) (filter_map h (take n xs)) _ where
      first : (o : Option Y) (ys zs : List Y) → cons_option o (ys ++ zs) ≡ cons_option o ys ++ zs
      first None ys zs = refl
      first (Some y) ys zs = refl

-- the lines of the articles among the first changes
abbrev pub lines_up_to : Spool → Octets → ℤ → ℕ → Octets
lines_up_to S w from n = new_lines S w from (filter_map article_filed (take n (entries S)))

new_lines-append : (S : Spool) (w : Octets) (from : ℤ) (xs ys : List NewsArticle)
    → new_lines S w from (xs ++ ys) ≡ new_lines S w from xs ++ new_lines S w from ys
new_lines-append S w from xs ys =
    ap (flat_map (λ (a : NewsArticle). line (id a.text))) (filter-append (is_new S w from) xs ys)
    ∙ flat_map-append (λ (a : NewsArticle). line (id a.text)) (filter (is_new S w from) xs) (filter (is_new S w from) ys)

pub lines_more : (S : Spool) (w : Octets) (from : ℤ) (n : ℕ)
    → lines_up_to S w from (n + 1) ≡ lines_up_to S w from n ++ new_lines S w from (option_to_list (article_with S (n + 1)))
lines_more S w from n =
    rw add-one (ap (new_lines S w from) (filter_map_more article_filed (entries S) n)
    ∙ new_lines-append S w from (filter_map article_filed (take n (entries S))) (option_to_list (article_with S (suc n))))

-- no lines, if no article has one
no_lines : (S : Spool) (w : Octets) (from : ℤ) (n : ℕ)
    → ((serial : ℕ) → serial ≤ n → new_lines S w from (option_to_list (article_with S serial)) ≡ []) → lines_up_to S w from n ≡ []
no_lines S w from zero each = refl
no_lines S w from (suc n) each =
    ap (lines_up_to S w from) (sym (add-one n)) ∙ lines_more S w from n
    ∙ ap (λ os. os ++ new_lines S w from (option_to_list (article_with S (n + 1))))
    (no_lines S w from n (λ serial low. each serial (omega arith)))
    ∙ each (n + 1) (omega arith)

-- an article that is older has no line
old_line : (S : Spool) (w : Octets) (from : ℤ) (n : ℕ) → IfSome (article_with S n) (λ a. is_since from a.moment ≡ false)
    → new_lines S w from (option_to_list (article_with S n)) ≡ []
old_line S w from n = by_article (article_with S n) where
  by_article : (o : Option NewsArticle) → IfSome o (λ a. is_since from a.moment ≡ false) → new_lines S w from (option_to_list o) ≡ []
  by_article None old = refl
  by_article (Some a) old = no_line S w from (Some a) a.moment refl
      (ap (λ b. b && list_any (wildmat_matches w) (as_it_is S a).groups) old)

-- none of what is older
pub old_lines : (S : Spool) (w : Octets) (from : ℤ) (n : ℕ)
    → ((serial : ℕ) → serial ≤ n → IfSome (article_with S serial) (λ a. is_since from a.moment ≡ false)) → lines_up_to S w from n ≡ []
old_lines S w from n older = no_lines S w from n (λ serial low. old_line S w from serial (older serial low))

pub all_lines : (S : Spool) (w : Octets) (from : ℤ) → lines_up_to S w from (length S) ≡ new_lines S w from (articles S)
unfolding articles entries
all_lines S w from = ap (λ es. new_lines S w from (filter_map article_filed es))
    (take_all (length S) (entries S) (let size = entries_count 1 S in omega (arith, size)))

-- an article that is in no group that the wildmat matches has no line
pub left_out : (S : Spool) (w : Octets) (from : ℤ) (n : ℕ) → list_any (wildmat_matches w) (groups_now S n) ≡ false
    → new_lines S w from (option_to_list (article_with S n)) ≡ []
left_out S w from n out = by_article (article_with S n) out where
  by_article : (o : Option NewsArticle)
      → list_any (wildmat_matches w) (unwrap_or (option_map (λ (a : NewsArticle). (as_it_is S a).groups) o) []) ≡ false
      → new_lines S w from (option_to_list o) ≡ []
  by_article None none = refl
  by_article (Some a) none = no_line S w from (Some a) a.moment refl (and_right (is_since from a.moment)
      (list_any (wildmat_matches w) (as_it_is S a).groups) none)

-- no lines, if the wildmat matches no group of what is not older
pub no_match : (S : Spool) (w : Octets) (from : ℤ) (n older : ℕ)
    → ((serial : ℕ) → serial ≤ older → IfSome (article_with S serial) (λ a. is_since from a.moment ≡ false))
    → ((serial : ℕ) → older < serial → list_any (wildmat_matches w) (groups_now S serial) ≡ false) → lines_up_to S w from n ≡ []
no_match S w from n older old out = no_lines S w from n (λ serial low. elim (cases_lt older serial) [
  | inl above ↦ left_out S w from serial (out serial above)
  | inr within ↦ old_line S w from serial (old serial within)
])

-- the groups from the first one on that matches stand for all
pub matching_rest : (host : Octets) (S : Spool) (x : IndexView) (w : Octets) (older : ℕ) (all rest : List GroupIndex) → IsLawful host S
    → Indexes S x → all ≡ x.groups
    → (EachRises all → (serial : ℕ) → older < serial → list_any (is_matching w serial) rest ≡ list_any (is_matching w serial) all)
    → (serial : ℕ) → older < serial → list_any (is_matching w serial) rest ≡ list_any (wildmat_matches w) (groups_now S serial)
matching_rest host S x w older all rest lawful is all_is same serial above =
    same (subst EachRises (sym all_is) (groups_rise S x is)) serial above
    ∙ ap (list_any (is_matching w serial)) all_is
    ∙ matching host S x w serial lawful is
