-- Elements of lists that are joined, and texts that are compared.
use Rattle.std.proofs.Common.{◌≡◌, ◌≢◌, inl, inr, ℕ, zero, suc, ◌+◌, List, [], ◌∷◌, ◌++◌, map, take, refl, sym, ◌∙◌, ap, subst, arith}
use Rattle.std.proofs.Common.{true, false}
use Rattle.std.specs.Prelude.{flat_map, bytes_eq, slice_get, Some, option_map}
use Rattle.std.specs.List.{Contains}
use Rattle.std.proofs.lemmas.List.{map-append, take_more}
use Rattle.std.proofs.lemmas.List.Elements.{Contains-append_left, Contains-append_right, Contains-append_cases}
use Rattle.std.proofs.lemmas.Bool.{false_from_ne_true}
use Rattle.std.proofs.lemmas.Option.{get_or_from_slice_get, same_Some, slice_get-map, slice_get_within}
use Rattle.std.proofs.lemmas.Slice.Eq.{bytes_eq-Decides}
use Rattle.model.specs.Stream.{Octets}

-- ---- joined lists

pub joined_has : {X A : Type 0} (f : X → List A) (xs : List X) (x : X) (a : A) → Contains xs x → Contains (f x) a
    → Contains (flat_map f xs) a
joined_has f [] x a (k, low, is) has = absurd (omega arith)
joined_has f (y ∷ ys) x a (zero, low, is) has = Contains-append_left (f y) (flat_map f ys) a (subst (λ z. Contains (f z) a) (sym is) has)
joined_has f (y ∷ ys) x a (suc k, low, is) has =
    Contains-append_right (f y) (flat_map f ys) a (joined_has f ys x a (k, omega arith, is) has)

-- which list an element comes from
pub record IsFrom {X A : Type 0} (f : X → List A) (xs : List X) (a : A) : Type 0 where
  pub item : X
  pub here : Contains xs item
  pub has : Contains (f item) a

pub joined_from : {X A : Type 0} (f : X → List A) (xs : List X) (a : A) → Contains (flat_map f xs) a → IsFrom f xs a
joined_from f [] a (k, low, is) = absurd (omega arith)
joined_from f (y ∷ ys) a has = elim (Contains-append_cases (f y) (flat_map f ys) a has) [
  | inl here ↦ record { item = y; here = (0, omega arith, refl); has = here }
  | inr later ↦
      let rest = joined_from f ys a later in
      record { item = rest.item; here = (suc rest.here.0, omega (arith, rest.here.1), rest.here.2); has = rest.has }
]

pub map_joined : {X A B : Type 0} (g : A → B) (f : X → List A) (xs : List X) → map g (flat_map f xs) ≡ flat_map (λ x. map g (f x)) xs
map_joined g f [] = refl
map_joined g f (x ∷ xs) = map-append g (f x) (flat_map f xs) ∙ ap (λ ys. map g (f x) ++ ys) (map_joined g f xs)

pub map_twice : {X Y Z : Type 0} (g : Y → Z) (f : X → Y) (xs : List X) → map g (map f xs) ≡ map (λ x. g (f x)) xs
map_twice g f [] = refl
map_twice g f (x ∷ xs) = ap (λ ys. g (f x) ∷ ys) (map_twice g f xs)

-- ---- texts

pub bytes_same : (xs : Octets) → bytes_eq xs xs ≡ true
bytes_same xs = (bytes_eq-Decides xs xs).1 refl

pub bytes_differ : (xs ys : Octets) → xs ≢ ys → bytes_eq xs ys ≡ false
bytes_differ xs ys other = false_from_ne_true (bytes_eq xs ys) (λ is. other ((bytes_eq-Decides xs ys).0 is))

pub bytes_swap : (xs ys : Octets) → bytes_eq xs ys ≡ false → bytes_eq ys xs ≡ false
bytes_swap xs ys other = false_from_ne_true (bytes_eq ys xs)
    (λ is. absurd (let one : bytes_eq xs ys ≡ true = (bytes_eq-Decides xs ys).1 (sym ((bytes_eq-Decides ys xs).0 is)) in cc))

-- ---- elements in one place

-- one element more of a list
pub front_more : {X : Type 0} (xs : List X) (n : ℕ) (x : X) → slice_get xs n ≡ Some x → take (n + 1) xs ≡ take n xs ++ x ∷ []
front_more xs n x is = take_more xs n x (slice_get_within xs n x is) ∙ ap (λ y. take n xs ++ y ∷ []) (get_or_from_slice_get xs n x x is)

-- elements of two lists that are the same list by two functions
pub both_at : {X Y Z : Type 0} (f : X → Z) (h : Y → Z) (xs : List X) (ys : List Y) (k : ℕ) (x : X) (y : Y) → map f xs ≡ map h ys
    → slice_get xs k ≡ Some x → slice_get ys k ≡ Some y → f x ≡ h y
both_at {X} {Y} {Z} f h xs ys k x y same first second =
    same_Some (f x) (h y) (sym (ap (option_map f) first) ∙ sym (slice_get-map f xs k) ∙ ap (λ (l : List Z). slice_get l k) same
    ∙ slice_get-map h ys k ∙ ap (option_map h) second)
