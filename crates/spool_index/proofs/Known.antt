-- Groups by place, and as the commands see them.
use Rattle.std.proofs.Common.{◌≡◌, ℕ, suc, ◌<◌, List, [], ◌∷◌, length, map, get_or, refl, sym, ◌∙◌, ap, arith, Bool, true, false, cond}
use Rattle.std.specs.Prelude.{Option, Some, None, MatchOption, IfSome, bytes_eq, filter, is_some, option_map, slice_get}
use Rattle.std.specs.List.{list_any}
use Rattle.std.specs.Option.{option_and_then}
use Rattle.std.proofs.lemmas.Bool.{or_from}
use Rattle.std.proofs.lemmas.List.{length-map}
use Rattle.std.proofs.lemmas.List.Folds.{list_any_at}
use Rattle.std.proofs.lemmas.Option.{same_Some, slice_get-map}
use Rattle.model.specs.Stream.{Octets}
use Rattle.model.specs.Indexed.{GroupIndex, group_index, value_of}
use Rattle.model.specs.Lawful.{IsLawful}
use Rattle.model.specs.Spool.{Spool, NewsArticle, NewsGroup, filed_in, greatest, group_named, groups, last_naming, last_naming_one, low}
use Rattle.model.proofs.Joined.{map_twice}
use Rattle.session_lookups.specs.Held.{Known, all_known, known}
use Rattle.session_lookups.proofs.Absent.{last_of_groups}
use Rattle.spool_groups.specs.Finding.{known_in}
use Rattle.spool_groups.specs.Naming.{AreNamed, heads, name_at}
use Rattle.spool_groups.proofs.Lists.{got}
use Rattle.spool_groups.proofs.Naming.{Places, here, nowhere}
use Rattle.spool_index.specs.View.{IndexView, Indexes}
use Rattle.spool_index.proofs.LookUps.{group_found, group_not_found, not_here}

-- ---- names

pub named_true : (places : Places) (names : List Octets) (name : Octets) (k : ℕ) → AreNamed places names → value_of places name ≡ Some k
    → list_any (bytes_eq name) names ≡ true
named_true places names name k named is =
    list_any_at (bytes_eq name) names k [] (named.from name k is).there (here places names name k named is)

none_any : (p : Octets → Bool) (names : List Octets) → ((j : ℕ) → j < length names → p (name_at names j) ≡ false) → list_any p names ≡ false
none_any p [] apart = refl
none_any p (n ∷ names) apart = or_from (p n) (list_any p names) (apart 0 (omega arith))
    (none_any p names (λ j small. apart (suc j) (omega arith)))

pub named_false : (places : Places) (names : List Octets) (name : Octets) → AreNamed places names → value_of places name ≡ None
    → list_any (bytes_eq name) names ≡ false
named_false places names name named is = none_any (bytes_eq name) names (λ j small. nowhere places names name j named is small)

-- what a look-up of a place says
abbrev pub IsPlace : Places → ℕ → Octets → Option ℕ → Type 0
IsPlace places count name o = MatchOption o (value_of places name ≡ None) (λ k. (k < count) × (value_of places name ≡ Some k))

pub place_here : (places : Places) (names : List Octets) (count : ℕ) (name : Octets) (o : Option ℕ) → AreNamed places names
    → IsPlace places count name o → is_some o ≡ list_any (bytes_eq name) names
place_here places names count name None named is = sym (named_false places names name named is)
place_here places names count name (Some k) named is = sym (named_true places names name k named is.1)

pub place_there : (places : Places) (names : List Octets) (count : ℕ) (name : Octets) (o : Option ℕ) → AreNamed places names
    → IsPlace places count name o → IfSome o (λ k. slice_get names k ≡ Some name)
place_there places names count name None named is = tt
place_there places names count name (Some k) named is =
    let its = named.from name k is.1 in
    got names k [] its.there ∙ ap Some its.its

-- ---- places in the spool

group_at : (S : Spool) (gs : List NewsGroup) (k : ℕ) (name : Octets) (i : GroupIndex) → slice_get (map (group_index S) gs) k ≡ Some i
    → Some i ≡ option_map (group_index S) (group_named S name) → slice_get gs k ≡ group_named S name
group_at S gs k name i at is = by_both (slice_get gs k) (group_named S name) (sym (slice_get-map (group_index S) gs k) ∙ at) is where
  by_both : (o q : Option NewsGroup) → option_map (group_index S) o ≡ Some i → Some i ≡ option_map (group_index S) q → o ≡ q
  by_both None q first second = absurd (cc)
  by_both (Some g) None first second = absurd (cc)
  by_both (Some g) (Some h) first second =
      let one : group_index S g ≡ i = same_Some (group_index S g) i first in
      let two : i ≡ group_index S h = same_Some i (group_index S h) second in
      ap (λ (j : GroupIndex). Some j.group) (one ∙ two)

pub place_spool : {R : Type 0} (sh : R → GroupIndex) (gs : List R) (places : Places) (name : Octets) (o : Option ℕ) (x : IndexView)
    (S : Spool) → AreNamed places (heads (map sh gs)) → IsPlace places (length gs) name o → map sh gs ≡ x.groups → Indexes S x
    → option_and_then (slice_get (groups S)) o ≡ group_named S name
place_spool sh gs places name None x S named is view indexed =
    sym (not_here S name (group_not_found sh gs places named name x S view indexed is))
place_spool {R} sh gs places name (Some k) x S named is view indexed = by_list gs refl where
  by_list : (rs : List R) → rs ≡ gs → slice_get (groups S) k ≡ group_named S name
  by_list [] same = absurd (let none : length gs ≡ 0 = ap (λ (l : List R). length l) (sym same) in omega (arith, is.0, none))
  by_list (r ∷ rs) same =
      group_at S (groups S) k name (sh (get_or gs k r))
      (ap (λ (is' : List GroupIndex). slice_get is' k) (sym (view ∙ indexed.groups_are)) ∙ slice_get-map sh gs k
      ∙ ap (option_map sh) (got gs k r is.0))
      (group_found sh gs places named name k r x S view indexed is.1)

-- ---- as the commands see them

known_is : (S : Spool) (g : NewsGroup) → known_in (group_index S g) ≡ known S g
known_is S g = ap (λ (h : ℕ). record { listed = record { group = g; low = low S g.name; high = h }; last = last_naming S g.name })
    (length-map (filed_in S g.name) (λ (a : NewsArticle). a.serial))

pub known_found : (S : Spool) (name : Octets) (i : GroupIndex) (k : Known) → Some i ≡ option_map (group_index S) (group_named S name)
    → k ≡ known_in i → Some k ≡ option_map (known S) (group_named S name)
known_found S name i k is seen = by_group (group_named S name) is where
  by_group : (o : Option NewsGroup) → Some i ≡ option_map (group_index S) o → Some k ≡ option_map (known S) o
  by_group None same = absurd (cc)
  by_group (Some g) same = ap Some (seen ∙ ap known_in (same_Some i (group_index S g) same) ∙ known_is S g)

pub known_nowhere : (S : Spool) (name : Octets) → None ≡ option_map (group_index S) (group_named S name)
    → None ≡ option_map (known S) (group_named S name)
known_nowhere S name is = ap (option_map (known S)) (sym (not_here S name is))

pub known_at : (S : Spool) (gs : List GroupIndex) (k : ℕ) (i : GroupIndex) (v : Known) → gs ≡ map (group_index S) (groups S)
    → slice_get gs k ≡ Some i → v ≡ known_in i → slice_get (all_known S) k ≡ Some v
known_at S gs k i v all at seen =
    slice_get-map (known S) (groups S) k
    ∙ by_group (slice_get (groups S) k) (sym (slice_get-map (group_index S) (groups S) k)
    ∙ ap (λ (is' : List GroupIndex). slice_get is' k) (sym all) ∙ at)
  where
    by_group : (o : Option NewsGroup) → option_map (group_index S) o ≡ Some i → option_map (known S) o ≡ Some v
    by_group None same = absurd (cc)
    by_group (Some g) same = ap Some (sym (known_is S g) ∙ ap known_in (same_Some (group_index S g) i same) ∙ sym seen)

pub count_is : (S : Spool) (x : IndexView) → Indexes S x → length x.groups ≡ length (groups S)
count_is S x is = ap (λ (gs : List GroupIndex). length gs) is.groups_are ∙ length-map (groups S) (group_index S)

-- ---- the last serial of some

filter_map_swap : {X Y : Type 0} (f : X → Y) (p : Y → Bool) (xs : List X) → filter p (map f xs) ≡ map f (filter (λ x. p (f x)) xs)
filter_map_swap f p [] = refl
filter_map_swap {X} f p (x ∷ xs) = by_test (p (f x)) (filter_map_swap f p xs) where
  by_test : (b : Bool) → filter p (map f xs) ≡ map f (filter (λ (y : X). p (f y)) xs)
      → cond b (f x ∷ filter p (map f xs)) (filter p (map f xs))
      ≡ map f (cond b (x ∷ filter (λ (y : X). p (f y)) xs) (filter (λ (y : X). p (f y)) xs))
  by_test true rest = ap (λ ys. f x ∷ ys) rest
  by_test false rest = rest

pub last_of_some : (host : Octets) (S : Spool) (test : Octets → Bool) (gs : List GroupIndex) (last : ℕ) → IsLawful host S
    → gs ≡ map (group_index S) (groups S)
    → last ≡ greatest (map (λ i. i.last) (filter (λ i. test i.group.name) gs)) → last ≡ last_naming_one S test
last_of_some host S test gs last lawful all is =
    is ∙ ap (λ (is' : List GroupIndex). greatest (map (λ i. i.last) (filter (λ i. test i.group.name) is'))) all
    ∙ ap (λ (is' : List GroupIndex). greatest (map (λ i. i.last) is'))
    (filter_map_swap (group_index S) (λ (i : GroupIndex). test i.group.name) (groups S))
    ∙ ap greatest (map_twice (λ (i : GroupIndex). i.last) (group_index S) (filter (λ (g : NewsGroup). test g.name) (groups S)))
    ∙ sym (last_of_groups host S test lawful)
