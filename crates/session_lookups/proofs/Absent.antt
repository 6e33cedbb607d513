-- A change of a lawful spool names only groups that are here. So the last serial that names one of some groups is that of one of them.
use Rattle.std.proofs.Common.{◌≡◌, ℕ, suc, ◌+◌, ◌≤◌, List, [], ◌∷◌, ◌++◌, map, refl, sym, ◌∙◌, ap, subst, arith, append_assoc, Bool, true}
use Rattle.std.proofs.Common.{false, cond}
use Rattle.std.specs.Prelude.{filter, filter_map, find, length, max, Option, Some, None, bytes_eq, is_some, ◌||◌}
use Rattle.std.specs.List.{list_any}
use Rattle.std.specs.Option.{option_or}
use Rattle.std.proofs.lemmas.Bool.{true≢false, or_right}
use Rattle.std.proofs.lemmas.Slice.Eq.{bytes_eq-Decides}
use Rattle.std.proofs.lemmas.List.Elements.{filter_map-append}
use Rattle.std.proofs.lemmas.List.Folds.{find-append}
use Rattle.std.proofs.Math.Nat.{le-max_left, le-max_right}
use Rattle.model.specs.Stream.{Octets}
use Rattle.model.specs.Lawful.{IsLawful, IsLawfulAfter}
use Rattle.model.specs.Spool.{Spool, contents, NewsGroup, articles, entries, expiries, expiries_of, filed_in, entries_from, greatest}
use Rattle.model.specs.Spool.{group_made, group_named, groups, is_here, is_name, last_naming, last_naming_one, names_one, news_group}
use Rattle.model.specs.declared.change.Change.{Change}
use Rattle.model.specs.declared.change.Change.TheVariants.{Group, Article, Expire}
use Rattle.model.specs.declared.change.NewGroup.{NewGroup}
use Rattle.model.proofs.Growing.{entries_push, here_stays}
use Rattle.model.proofs.Fronts.{passing, greatest_serial, find-filter, head_of}
use Rattle.model.proofs.Joined.{bytes_same}
use Rattle.model.proofs.LookUps.{last_naming_more, contents_cut}

-- ---- what is here stays here

or_some : (a b : Option NewsGroup) → is_some b ≡ true → is_some (option_or a b) ≡ true
or_some None b some = some
or_some (Some g) b some = refl

made_here : (P : Spool) (g : NewGroup) → is_here (P ++ Group g ∷ []) g.name ≡ true
unfolding group_named groups entries
made_here P g =
    let made : NewsGroup = news_group (length P + 1) g in
    let last : find (λ (h : NewsGroup). is_name g.name h.name) (made ∷ []) ≡ Some made =
    ap (λ b. cond b (Some made) None) (bytes_same g.name) in
    ap (λ es. is_some (find (λ (h : NewsGroup). is_name g.name h.name) (filter_map group_made es))) (entries_push 1 P (Group g))
    ∙ ap (λ gs. is_some (find (λ (h : NewsGroup). is_name g.name h.name) gs))
    (filter_map-append group_made (entries_from 1 P) (record { serial = length P + 1; change = Group g } ∷ []))
    ∙ ap (λ (o : Option NewsGroup). is_some o)
    (find-append (λ (h : NewsGroup). is_name g.name h.name) (filter_map group_made (entries_from 1 P)) (made ∷ []))
    ∙ or_some (find (λ (h : NewsGroup). is_name g.name h.name) (filter_map group_made (entries_from 1 P))) _
    (ap (λ (o : Option NewsGroup). is_some o) last)

-- ---- a change names a group that is here

-- one of the names passes the test and is here
record Named (P : Spool) (test : Octets → Bool) (names : List Octets) : Type 0 where
  pub name : Octets
  pub passes : test name ≡ true
  pub here : is_here P name ≡ true
  pub among : list_any (is_name name) names ≡ true

named_one : (P : Spool) (test : Octets → Bool) (names : List Octets) → list_any test (filter (is_here P) names) ≡ true
    → Named P test (filter (is_here P) names)
named_one P test [] any = absurd (true≢false (sym any))
named_one P test (x ∷ names) any = by_here (is_here P x) refl any (named_one P test names) where
  rest : List Octets
  rest = filter (is_here P) names

  by_here : (b : Bool) → is_here P x ≡ b → list_any test (cond b (x ∷ rest) rest) ≡ true → (list_any test rest ≡ true → Named P test rest)
      → Named P test (cond b (x ∷ rest) rest)
  by_here false is passed later = later passed
  by_here true is passed later = by_test (test x) refl passed where
    by_test : (b : Bool) → test x ≡ b → (b || list_any test rest) ≡ true → Named P test (x ∷ rest)
    by_test true passes some = record {
      name = x;
      passes = passes;
      here = is;
      among = ap (λ b. b || list_any (is_name x) rest) (bytes_same x);
    }
    by_test false fails some = let one = later some in
        record {
          name = one.name;
          passes = one.passes;
          here = one.here;
          among = or_right (is_name one.name x) (list_any (is_name one.name) rest) one.among;
        }

-- ---- bounds

abbrev last_of : (Octets → Bool) → ℕ → Spool → ℕ
last_of test n cs = greatest_serial (passing (names_one test) (entries_from n cs))

first_within : (test : Octets → Bool) (n X : ℕ) (c : Change) (cs : Spool) → names_one test c ≡ true → last_of test n (c ∷ cs) ≤ X → n ≤ X
first_within test n X c cs passed = by_pass (names_one test c) passed where
  by_pass : (b : Bool) → b ≡ true
      → greatest_serial (cond b (record { serial = n; change = c } ∷ passing (names_one test) (entries_from (suc n) cs))
      (passing (names_one test) (entries_from (suc n) cs))) ≤ X → n ≤ X
  by_pass true is bound = omega (arith, bound, le-max_left n (last_of test (suc n) cs))
  by_pass false is bound = absurd (true≢false (sym is))

rest_within : (test : Octets → Bool) (n X : ℕ) (c : Change) (cs : Spool) → last_of test n (c ∷ cs) ≤ X → last_of test (suc n) cs ≤ X
rest_within test n X c cs = by_pass (names_one test c) where
  by_pass : (b : Bool) → greatest_serial
      (cond b (record { serial = n; change = c } ∷ passing (names_one test) (entries_from (suc n) cs))
      (passing (names_one test) (entries_from (suc n) cs))) ≤ X → last_of test (suc n) cs ≤ X
  by_pass true bound = omega (arith, bound, le-max_right n (last_of test (suc n) cs))
  by_pass false bound = bound

both_within : (test : Octets → Bool) (n X : ℕ) (c : Change) (cs : Spool) → (names_one test c ≡ true → n ≤ X) → last_of test (suc n) cs ≤ X
    → last_of test n (c ∷ cs) ≤ X
both_within test n X c cs first rest = by_pass (names_one test c) first where
  by_pass : (b : Bool) → (b ≡ true → n ≤ X)
      → greatest_serial (cond b (record { serial = n; change = c } ∷ passing (names_one test) (entries_from (suc n) cs))
      (passing (names_one test) (entries_from (suc n) cs))) ≤ X
  by_pass true own = let low : n ≤ X = own refl in max_within n (last_of test (suc n) cs) X low rest where
    max_within : (a b m : ℕ) → a ≤ m → b ≤ m → max a b ≤ m
    max_within a b m = omega arith
  by_pass false own = rest

-- what bounds the changes that name each group here bounds those that name one
upper : (host : Octets) (test : Octets → Bool) (X n : ℕ) (before cs : Spool) → IsLawfulAfter host before cs
    → ((h : Octets) → test h ≡ true → is_here (before ++ cs) h ≡ true → last_of (is_name h) n cs ≤ X) → last_of test n cs ≤ X
upper host test X n before [] lawful bound = omega arith
upper host test X n before (c ∷ cs) lawful bound =
    both_within test n X c cs (own c lawful bound)
    (upper host test X (suc n) (before ++ c ∷ []) cs lawful.1
    (λ h passes here. rest_within (is_name h) n X c cs (bound h passes (rw append_assoc at here))))
  where
    own : (d : Change) → IsLawfulAfter host before (d ∷ cs)
        → ((h : Octets) → test h ≡ true → is_here (before ++ d ∷ cs) h ≡ true → last_of (is_name h) n (d ∷ cs) ≤ X)
        → names_one test d ≡ true → n ≤ X
    own (Group g) may all passed =
        let here : is_here (before ++ Group g ∷ cs) g.name ≡ true =
        rw append_assoc at (here_stays (before ++ Group g ∷ []) cs g.name (made_here before g)) in
        first_within (is_name g.name) n X (Group g) cs (bytes_same g.name) (all g.name passed here)
    own (Article f) may all passed =
        let one = named_one before test _ (ap (list_any test) (sym may.0.filed) ∙ passed) in
        first_within (is_name one.name) n X (Article f) cs (ap (list_any (is_name one.name)) may.0.filed
        ∙ one.among) (all one.name one.passes (here_stays before (Article f ∷ cs) one.name one.here))
    own (Expire e) may all passed =
        first_within (is_name e.group) n X (Expire e) cs (bytes_same e.group)
        (all e.group passed (here_stays before (Expire e ∷ cs) e.group may.0.here))

-- ---- the groups

-- the greatest last serial of some groups
abbrev pub greatest_last : Spool → List NewsGroup → ℕ
greatest_last S gs = greatest (map (λ (g : NewsGroup). last_naming S g.name) gs)

abbrev pub tested : (Octets → Bool) → List NewsGroup → List NewsGroup
tested test gs = filter (λ (g : NewsGroup). test g.name) gs

lasts_below : (S : Spool) (test : Octets → Bool) (m : ℕ) (gs : List NewsGroup) → ((g : Octets) → test g ≡ true → last_naming S g ≤ m)
    → greatest_last S (tested test gs) ≤ m
lasts_below S test m [] below = omega arith
lasts_below S test m (g ∷ gs) below = by_pass (test g.name) refl (lasts_below S test m gs below) where
  max_within : (a b : ℕ) → a ≤ m → b ≤ m → max a b ≤ m
  max_within a b = omega arith

  by_pass : (b : Bool) → test g.name ≡ b → greatest_last S (tested test gs) ≤ m
      → greatest_last S (cond b (g ∷ tested test gs) (tested test gs)) ≤ m
  by_pass true is rest = max_within (last_naming S g.name) (greatest_last S (tested test gs)) (below g.name is) rest
  by_pass false is rest = rest

last_above : (S : Spool) (test : Octets → Bool) (h : Octets) (gs : List NewsGroup) → test h ≡ true
    → is_some (find (λ (g : NewsGroup). is_name h g.name) gs) ≡ true → last_naming S h ≤ greatest_last S (tested test gs)
last_above S test h [] passes some = absurd (true≢false (sym some))
last_above S test h (g ∷ gs) passes some = by_name (bytes_eq g.name h) refl some (last_above S test h gs passes) where
  more : (b : Bool) → greatest_last S (tested test gs) ≤ greatest_last S (cond b (g ∷ tested test gs) (tested test gs))
  more true = le-max_right (last_naming S g.name) (greatest_last S (tested test gs))
  more false = omega arith

  own : (b : Bool) → b ≡ true → last_naming S g.name ≤ greatest_last S (cond b (g ∷ tested test gs) (tested test gs))
  own true is = le-max_left (last_naming S g.name) (greatest_last S (tested test gs))
  own false is = absurd (true≢false (sym is))

  by_name : (b : Bool) → bytes_eq g.name h ≡ b → is_some (cond b (Some g) (find (λ (g : NewsGroup). is_name h g.name) gs)) ≡ true
      → (is_some (find (λ (g : NewsGroup). is_name h g.name) gs) ≡ true → last_naming S h ≤ greatest_last S (tested test gs))
      → last_naming S h ≤ greatest_last S (tested test (g ∷ gs))
  by_name true is found later =
      let same : g.name ≡ h = (bytes_eq-Decides g.name h).0 is in
      subst (λ k. last_naming S k ≤ greatest_last S (tested test (g ∷ gs))) same (own (test g.name) (ap test same ∙ passes))
  by_name false is found later = let rest = later found in let bound = more (test g.name) in omega (arith, rest, bound)

-- the last serial that names one of some groups is that of one that is here
pub last_of_groups : (host : Octets) (S : Spool) (test : Octets → Bool) → IsLawful host S
    → last_naming_one S test ≡ greatest_last S (tested test (groups S))
unfolding last_naming_one entries group_named
last_of_groups host S test lawful =
    let above : last_naming_one S test ≤ greatest_last S (tested test (groups S)) =
    upper host test (greatest_last S (tested test (groups S))) 1 [] S lawful (λ h passes here. last_above S test h (groups S) passes here)
    in
    let below : greatest_last S (tested test (groups S)) ≤ last_naming_one S test =
    lasts_below S test (last_naming_one S test) (groups S) (λ g passes. last_naming_more S test g passes) in
    omega (arith, above, below)

-- ---- a group that isn't here

none_kept : (name : Octets) (gs : List NewsGroup) → find (λ (g : NewsGroup). is_name name g.name) gs ≡ None → tested (is_name name) gs ≡ []
none_kept name gs none = by_kept (tested (is_name name) gs) (sym (find-filter (λ (g : NewsGroup). is_name name g.name) gs) ∙ none) where
  by_kept : (kept : List NewsGroup) → head_of kept ≡ None → kept ≡ []
  by_kept [] is = refl
  by_kept (g ∷ kept) is = absurd (cc)

pub absent_last : (host : Octets) (S : Spool) (name : Octets) → IsLawful host S → group_named S name ≡ None → last_naming S name ≡ 0
unfolding group_named
absent_last host S name lawful none = last_of_groups host S (is_name name) lawful ∙ ap (greatest_last S) (none_kept name (groups S) none)

pub absent_contents : (host : Octets) (S : Spool) (name : Octets) → IsLawful host S → group_named S name ≡ None
    → contents S name ≡ record { low = 1; filed = [] }
unfolding expiries_of expiries filed_in articles entries
absent_contents host S name lawful none = sym (contents_cut 0 S name (omega (arith, absent_last host S name lawful none)))
