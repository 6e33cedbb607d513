-- Lists whose elements all pass.
use Rattle.std.proofs.Common.{◌≡◌, ℕ, zero, suc, List, [], ◌∷◌, map, refl, subst, Bool, true, false, cond}
use Rattle.std.specs.Prelude.{filter, find, slice_get, Some}
use Rattle.std.specs.List.{list_all, slice_split}
use Rattle.std.proofs.lemmas.Bool.{and_parts, and_from}
use Rattle.model.specs.Stream.{Octets}
use Rattle.model.specs.Names.{is_run_of}
use Rattle.model.proofs.Ids.{runs_pass, split_pass}

abbrev pub Every : {A : Type 0} → (A → Type 0) → List A → Type 0
Every P [] = Unit {0}
Every P (x ∷ xs) = P x × Every P xs

pub every_filter : {A : Type 0} (P : A → Type 0) (test : A → Bool) (xs : List A) → Every P xs → Every P (filter test xs)
every_filter P test [] all = tt
every_filter {A} P test (x ∷ xs) all = by_test (test x) (every_filter P test xs all.1) where
  by_test : (b : Bool) → Every P (filter test xs) → Every P (cond b (x ∷ filter test xs) (filter test xs))
  by_test true rest = (all.0, rest)
  by_test false rest = rest

pub every_find : {A : Type 0} (P : A → Type 0) (test : A → Bool) (xs : List A) (a : A) → Every P xs → find test xs ≡ Some a → P a
every_find P test [] a all is = absurd (cc)
every_find {A} P test (x ∷ xs) a all is = by_test (test x) is (every_find P test xs a all.1) where
  by_test : (b : Bool) → cond b (Some x) (find test xs) ≡ Some a → (find test xs ≡ Some a → P a) → P a
  by_test true found later = let same : x ≡ a = cc in subst P same all.0
  by_test false found later = later found

pub every_at : {A : Type 0} (P : A → Type 0) (xs : List A) (i : ℕ) (a : A) → Every P xs → slice_get xs i ≡ Some a → P a
every_at P [] i a all is = absurd (cc)
every_at P (x ∷ xs) zero a all is = let same : x ≡ a = cc in subst P same all.0
every_at P (x ∷ xs) (suc i) a all is = every_at P xs i a all.1 is

pub all_map : {A : Type 0} (P : A → Type 0) (p : Octets → Bool) (f : A → Octets) (xs : List A) → ((a : A) → P a → p (f a) ≡ true)
    → Every P xs
    → list_all p (map f xs) ≡ true
all_map P p f [] gives all = refl
all_map P p f (x ∷ xs) gives all = and_from (p (f x)) (list_all p (map f xs)) (gives x all.0) (all_map P p f xs gives all.1)

-- what passes one test passes another
pub all_more : (p q : ℕ → Bool) → ((x : ℕ) → p x ≡ true → q x ≡ true) → (xs : Octets) → list_all p xs ≡ true → list_all q xs ≡ true
all_more p q wider [] all = refl
all_more p q wider (x ∷ xs) all =
    let both = and_parts (p x) (list_all p xs) all in
    and_from (q x) (list_all q xs) (wider x both.0) (all_more p q wider xs both.1)

pub lists_more : (p q : ℕ → Bool) → ((x : ℕ) → p x ≡ true → q x ≡ true) → (ws : List Octets) → list_all (list_all p) ws ≡ true
    → list_all (list_all q) ws ≡ true
lists_more p q wider [] all = refl
lists_more p q wider (w ∷ ws) all =
    let both = and_parts (list_all p w) (list_all (list_all p) ws) all in
    and_from (list_all q w) (list_all (list_all q) ws) (all_more p q wider w both.0) (lists_more p q wider ws both.1)

-- ---- parts of a text

-- the octets of parts, and the marks, pass
pub parts_pass : (q p r : ℕ → Bool) → ((x : ℕ) → q x ≡ true → r x ≡ true) → ((x : ℕ) → p x ≡ true → r x ≡ true) → (text : Octets)
    → list_all (is_run_of q) (slice_split p text) ≡ true → list_all r text ≡ true
parts_pass q p r run mark text all = split_pass q p r run mark text (runs_pass q (slice_split p text) all)
