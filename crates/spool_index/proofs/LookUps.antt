-- What the look-ups find is what the changes say.
use Rattle.std.proofs.Common.{◌≡◌, ℕ, ◌-◌, ◌<◌, List, [], ◌∷◌, length, map, get_or, refl, sym, ◌∙◌, ap, subst, arith}
use Rattle.std.proofs.Common.{Bool, true, false, cond}
use Rattle.std.specs.Prelude.{Option, Some, None, bytes_eq, find, option_map, slice_get, nat_le, nat_lt, ◌==◌}
use Rattle.std.proofs.lemmas.Bool.{true≢false}
use Rattle.std.proofs.lemmas.List.{length-map, get_or-map}
use Rattle.std.proofs.lemmas.Option.{same_Some, slice_get-map}
use Rattle.std.proofs.lemmas.Slice.Eq.{bytes_eq-Decides}
use Rattle.model.specs.Stream.{Octets}
use Rattle.model.specs.Indexed.{GroupIndex, group_index, value_of}
use Rattle.model.specs.Lawful.{IsLawful}
use Rattle.model.specs.Spool.{Spool, NewsExpiry, NewsArticle, NewsGroup, by_number, expired_at}
use Rattle.model.specs.Spool.{expiries_of, filed_in, group_named, groups, is_name, low, numbered, serial_of}
use Rattle.model.proofs.Growing.{new_has_nothing}
use Rattle.model.proofs.Indexing.{new_has_expired}
use Rattle.model.proofs.Joined.{bytes_differ}
use Rattle.model.proofs.Rising.{expiries_rise}
use Rattle.spool_groups.specs.Finding.{Rise, filed_at}
use Rattle.spool_groups.specs.Naming.{AreNamed, heads, name_at}
use Rattle.spool_groups.proofs.Searching.{first_at, none_first}
use Rattle.spool_groups.proofs.Naming.{Places, here, named_at, nowhere, others, within}
use Rattle.spool_index.specs.View.{IndexView, Indexes}

-- ---- the first that passes

find_mapped : {X Y : Type 0} (f : X → Y) (p : Y → Bool) (xs : List X) → find p (map f xs) ≡ option_map f (find (λ x. p (f x)) xs)
find_mapped f p [] = refl
find_mapped f p (x ∷ xs) = by_test (p (f x)) (find_mapped f p xs) where
  by_test : (b : Bool) → find p (map f xs) ≡ option_map f (find (λ y. p (f y)) xs)
      → cond b (Some (f x)) (find p (map f xs)) ≡ option_map f (cond b (Some x) (find (λ y. p (f y)) xs))
  by_test true rest = refl
  by_test false rest = rest

passes : {X : Type 0} (p : X → Bool) (xs : List X) (x : X) → find p xs ≡ Some x → p x ≡ true
passes p [] x is = absurd (cc)
passes p (y ∷ ys) x is = by_test (p y) refl is (λ later. passes p ys x later) where
  by_test : (b : Bool) → p y ≡ b → cond b (Some y) (find p ys) ≡ Some x → (find p ys ≡ Some x → p x ≡ true) → p x ≡ true
  by_test true at found rest = ap p (sym (same_Some y x found)) ∙ at
  by_test false at found rest = rest found

-- ---- groups

swapped : (a b : Octets) (t : Bool) → bytes_eq a b ≡ t → bytes_eq b a ≡ t
swapped a b true is = (bytes_eq-Decides b a).1 (sym ((bytes_eq-Decides a b).0 is))
swapped a b false is = bytes_differ b a (λ same. true≢false (sym ((bytes_eq-Decides a b).1 (sym same)) ∙ is))

found_in_spool : (S : Spool) (name : Octets)
    → find (λ (i : GroupIndex). is_name name i.group.name) (map (group_index S) (groups S)) ≡ option_map (group_index S)
    (group_named S name)
unfolding group_named
found_in_spool S name = find_mapped (group_index S) (λ (i : GroupIndex). is_name name i.group.name) (groups S)

module _ {R : Type 0} (sh : R → GroupIndex) (gs : List R) (places : Places) (named : AreNamed places (heads (map sh gs)))
    (name : Octets) where
  size : length (heads (map sh gs)) ≡ length gs
  size = length-map (map sh gs) (λ (i : GroupIndex). i.group.name) ∙ length-map gs sh

  its_name : (j : ℕ) (d : R) → j < length gs → name_at (heads (map sh gs)) j ≡ (get_or (map sh gs) j (sh d)).group.name
  its_name j d low = named_at (map sh gs) j (sh d) (omega (arith, length-map gs sh))

  pub found_there : (k : ℕ) (d : R) → value_of places name ≡ Some k
      → find (λ (i : GroupIndex). is_name name i.group.name) (map sh gs) ≡ Some (sh (get_or gs k d))
  found_there k d is =
      let low : k < length gs = within sh gs places name k named is in
      first_at (λ (i : GroupIndex). is_name name i.group.name) (map sh gs) k (sh d) (omega (arith, length-map gs sh))
      (swapped name _ true (ap (bytes_eq name) (sym (its_name k d low)) ∙ here places (heads (map sh gs)) name k named is))
      (λ j before. swapped name _ false (ap (bytes_eq name) (sym (its_name j d (omega arith)))
      ∙ others places (heads (map sh gs)) name k j named is (omega (arith, size)) (omega arith)))
      ∙ ap (λ (i : GroupIndex). Some i) (get_or-map sh gs k d (sh d) low)

  pub found_nowhere : (d : R) → value_of places name ≡ None → find (λ (i : GroupIndex). is_name name i.group.name) (map sh gs) ≡ None
  found_nowhere d is =
      none_first (λ (i : GroupIndex). is_name name i.group.name) (map sh gs) (sh d)
      (λ j low. let below : j < length gs = omega (arith, length-map gs sh) in
      swapped name _ false (ap (bytes_eq name) (sym (its_name j d below))
      ∙ nowhere places (heads (map sh gs)) name j named is (omega (arith, size))))

pub group_found : {R : Type 0} (sh : R → GroupIndex) (gs : List R) (places : Places) (named : AreNamed places (heads (map sh gs)))
    (name : Octets) (k : ℕ) (d : R) (x : IndexView) (S : Spool) → map sh gs ≡ x.groups → Indexes S x
    → value_of places name ≡ Some k → Some (sh (get_or gs k d)) ≡ option_map (group_index S) (group_named S name)
group_found sh gs places named name k d x S view is at =
    sym (found_there sh gs places named name k d at) ∙ ap (find (λ (i : GroupIndex). is_name name i.group.name)) (view ∙ is.groups_are)
    ∙ found_in_spool S name

none_of_empty : {X : Type 0} (p : X → Bool) (xs : List X) → length xs ≡ 0 → find p xs ≡ None
none_of_empty p [] none = refl
none_of_empty p (x ∷ xs) none = absurd (omega arith)

pub group_not_found : {R : Type 0} (sh : R → GroupIndex) (gs : List R) (places : Places) (named : AreNamed places (heads (map sh gs)))
    (name : Octets) (x : IndexView) (S : Spool) → map sh gs ≡ x.groups → Indexes S x
    → value_of places name ≡ None → None ≡ option_map (group_index S) (group_named S name)
group_not_found {R} sh gs places named name x S view is at = sym (by_list gs named refl)
    ∙ ap (find (λ (i : GroupIndex). is_name name i.group.name)) (view ∙ is.groups_are) ∙ found_in_spool S name where
      by_list : (rs : List R) → AreNamed places (heads (map sh rs)) → rs ≡ gs
          → find (λ (i : GroupIndex). is_name name i.group.name) (map sh gs) ≡ None
      by_list [] all same = none_of_empty (λ (i : GroupIndex). is_name name i.group.name) (map sh gs) (length-map gs sh
          ∙ ap (λ (l : List R). length l) (sym same))
      by_list (r ∷ rs) all same = found_nowhere sh gs places named name r at

-- ---- numbers

pub record IsGroup (S : Spool) (name : Octets) (i : GroupIndex) : Type 0 where
  pub group : NewsGroup
  pub its_name : group.name ≡ name
  pub its_index : i ≡ group_index S group

pub group_is : (S : Spool) (name : Octets) (i : GroupIndex) → Some i ≡ option_map (group_index S) (group_named S name) → IsGroup S name i
unfolding group_named
group_is S name i is = by_group (find (λ (g : NewsGroup). is_name name g.name) (groups S)) refl is where
  by_group : (o : Option NewsGroup) → find (λ (g : NewsGroup). is_name name g.name) (groups S) ≡ o → Some i ≡ option_map (group_index S) o
      → IsGroup S name i
  by_group None found same = absurd (cc)
  by_group (Some g) found same = record {
    group = g;
    its_name = (bytes_eq-Decides g.name name).0 (passes (λ (h : NewsGroup). is_name name h.name) (groups S) g found);
    its_index = same_Some i (group_index S g) same;
  }

pub not_here : (S : Spool) (name : Octets) → None ≡ option_map (group_index S) (group_named S name) → group_named S name ≡ None
not_here S name is = by_group (group_named S name) is where
  by_group : (o : Option NewsGroup) → None ≡ option_map (group_index S) o → o ≡ None
  by_group None same = refl
  by_group (Some g) same = absurd (cc)

number_in_list : (filed : List NewsArticle) (low n : ℕ) (b z : Bool)
    → cond b None (cond z None (slice_get (map (λ (a : NewsArticle). a.serial) filed) (n - 1))) ≡ option_map (λ (a : NewsArticle). a.serial)
    (cond b None (cond z None (slice_get filed (n - 1))))
number_in_list filed low n true z = refl
number_in_list filed low n false true = refl
number_in_list filed low n false false = slice_get-map (λ (a : NewsArticle). a.serial) filed (n - 1)

pub number_found : (S : Spool) (name : Octets) (i : GroupIndex) (n : ℕ) → Some i ≡ option_map (group_index S) (group_named S name)
    → filed_at i n ≡ option_map (λ (a : NewsArticle). a.serial) (by_number S name n)
number_found S name i n is =
    let its = group_is S name i is in
    ap (λ (j : GroupIndex). filed_at j n) its.its_index
    ∙ number_in_list (filed_in S its.group.name) (low S its.group.name) n (nat_lt n (low S its.group.name)) (n == 0)
    ∙ ap (λ (g : Octets). option_map (λ (a : NewsArticle). a.serial) (by_number S g n)) its.its_name

pub number_not_found : (host : Octets) (S : Spool) (name : Octets) (n : ℕ) → IsLawful host S
    → None ≡ option_map (group_index S) (group_named S name) → None ≡ option_map (λ (a : NewsArticle). a.serial) (by_number S name n)
number_not_found host S name n lawful is =
    none_in (nat_lt n (low S name)) (n == 0)
    ∙ ap (λ (filed : List NewsArticle). option_map (λ (a : NewsArticle). a.serial)
    (cond (nat_lt n (low S name)) None (numbered filed n))) (sym (new_has_nothing host S name lawful (not_here S name is))) where
      none_in : (b z : Bool) → None ≡ option_map (λ (a : NewsArticle). a.serial) (cond b None (cond z None (slice_get [] (n - 1))))
      none_in true z = refl
      none_in false true = refl
      none_in false false = refl

-- ---- expiries

pub expiry_not_found : (host : Octets) (S : Spool) (name : Octets) (n : ℕ) → IsLawful host S
    → None ≡ option_map (group_index S) (group_named S name) → 0 ≡ expired_at S name n
unfolding expired_at
expiry_not_found host S name n lawful is =
    ap (λ (es : List NewsExpiry). serial_of (find (λ (e : NewsExpiry). nat_le n e.number) es))
    (sym (new_has_expired host S name lawful (not_here S name is)))

pub expiry_found : (host : Octets) (S : Spool) (name : Octets) (i : GroupIndex) (n serial : ℕ) → IsLawful host S
    → Some i ≡ option_map (group_index S) (group_named S name)
    → (Rise (map (λ (e : NewsExpiry). e.number) i.expired) → serial ≡ serial_of (find (λ (e : NewsExpiry). nat_le n e.number) i.expired))
    → serial ≡ expired_at S name n
unfolding expired_at
expiry_found host S name i n serial lawful is at =
    let its = group_is S name i is in
    let all : i.expired ≡ expiries_of S name = ap (λ (j : GroupIndex). j.expired) its.its_index ∙ ap (expiries_of S) its.its_name in
    let numbers : Rise (map (λ (e : NewsExpiry). e.number) i.expired) =
    subst (λ (es : List NewsExpiry). Rise (map (λ (e : NewsExpiry). e.number) es)) (sym all)
    (λ j k less low. expiries_rise host S name j k lawful less
    (omega (arith, length-map (expiries_of S name) (λ (e : NewsExpiry). e.number))))
    in
    at numbers ∙ ap (λ (es : List NewsExpiry). serial_of (find (λ (e : NewsExpiry). nat_le n e.number) es)) all
