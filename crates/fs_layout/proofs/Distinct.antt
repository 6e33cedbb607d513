-- Lists of numbers with no two equal, one after the other, where each gets more.
use Rattle.std.proofs.Common.{◌⊎◌, inl, inr, ℕ, List, ◌++◌}
use Rattle.std.specs.List.{Contains}
use Rattle.std.proofs.lemmas.List.Elements.{Contains-append_left, Contains-append_right, Contains-append_cases}
use Rattle.model.specs.Volume.{AreDistinct}
use Rattle.model.proofs.Distinct.{distinct_append, distinct_apart, distinct_left, distinct_right}

-- ---- numbers added after the first part of a list, and others within the rest

module _ (A a R r R' : List ℕ) where
  pub two_cases : ((x : ℕ) → Contains R' x → Contains R x ⊎ Contains r x) → (x : ℕ) → Contains ((A ++ a) ++ R') x
      → Contains (A ++ R) x ⊎ Contains (a ++ r) x
  two_cases rest x has = elim (Contains-append_cases (A ++ a) R' x has) [
    | inl front ↦ elim (Contains-append_cases A a x front) [
      | inl was ↦ inl (Contains-append_left A R x was)
      | inr new ↦ inr (Contains-append_left a r x new)
    ]
    | inr behind ↦ elim (rest x behind) [
      | inl was ↦ inl (Contains-append_right A R x was)
      | inr new ↦ inr (Contains-append_right a r x new)
    ]
  ]

  pub two_was : ((x : ℕ) → Contains R x → Contains R' x) → (x : ℕ) → Contains (A ++ R) x → Contains ((A ++ a) ++ R') x
  two_was rest x has = elim (Contains-append_cases A R x has) [
    | inl front ↦ Contains-append_left (A ++ a) R' x (Contains-append_left A a x front)
    | inr behind ↦ Contains-append_right (A ++ a) R' x (rest x behind)
  ]

  pub two_new : ((x : ℕ) → Contains r x → Contains R' x) → (x : ℕ) → Contains (a ++ r) x → Contains ((A ++ a) ++ R') x
  two_new rest x has = elim (Contains-append_cases a r x has) [
    | inl front ↦ Contains-append_left (A ++ a) R' x (Contains-append_right A a x front)
    | inr behind ↦ Contains-append_right (A ++ a) R' x (rest x behind)
  ]

  pub two_distinct : ((x : ℕ) → Contains R' x → Contains R x ⊎ Contains r x) → AreDistinct R' → AreDistinct (A ++ R) → AreDistinct (a ++ r)
      → ((x : ℕ) → Contains (A ++ R) x → ¬ (Contains (a ++ r) x)) → AreDistinct ((A ++ a) ++ R')
  two_distinct rest inner was new apart =
      distinct_append (A ++ a) R'
      (distinct_append A a (distinct_left A R was) (distinct_left a r new)
      (λ x one other. apart x (Contains-append_left A R x one) (Contains-append_left a r x other)))
      inner
      (λ x front behind. elim (Contains-append_cases A a x front) [
        | inl one ↦ elim (rest x behind) [
          | inl other ↦ distinct_apart A R was x one other
          | inr other ↦ apart x (Contains-append_left A R x one) (Contains-append_right a r x other)
        ]
        | inr one ↦ elim (rest x behind) [
          | inl other ↦ apart x (Contains-append_right A R x other) (Contains-append_left a r x one)
          | inr other ↦ distinct_apart a r new x one other
        ]
      ])

  pub two_apart : AreDistinct (A ++ R) → AreDistinct (a ++ r) → ((x : ℕ) → Contains (A ++ R) x → ¬ (Contains (a ++ r) x))
      → (AreDistinct R) × (AreDistinct r) × ((x : ℕ) → Contains R x → ¬ (Contains r x))
  two_apart was new apart = (
    distinct_right A R was,
    distinct_right a r new,
    λ x one other. apart x (Contains-append_right A R x one) (Contains-append_right a r x other),
  )

-- the fronts of two parts, if that of the second is known
split_two : (A a R r R' : List ℕ) → ((x : ℕ) → Contains R x → Contains R' x) → ((x : ℕ) → Contains r x → Contains R' x) → AreDistinct R
    → ((x : ℕ) → Contains R x → ¬ (Contains r x)) → AreDistinct ((A ++ a) ++ R')
    → AreDistinct (A ++ R) × ((x : ℕ) → Contains (A ++ R) x → ¬ (Contains (a ++ r) x))
split_two A a R r R' were new distinct apart all =
    let front = distinct_left (A ++ a) R' all in
    let across = distinct_apart (A ++ a) R' all in (
      distinct_append A R (distinct_left A a front) distinct (λ x one other. across x (Contains-append_left A a x one) (were x other)),
      λ x one other. elim (Contains-append_cases A R x one) [
        | inl early ↦ elim (Contains-append_cases a r x other) [
          | inl it ↦ distinct_apart A a front x early it
          | inr it ↦ across x (Contains-append_left A a x early) (new x it)
        ]
        | inr late ↦ elim (Contains-append_cases a r x other) [
          | inl it ↦ across x (Contains-append_right A a x it) (were x late)
          | inr it ↦ apart x late it
        ]
      ],
    )

-- ---- three lists, each with another after it

module _ (A a B b C c : List ℕ) where
  second_cases : (x : ℕ) → Contains ((B ++ b) ++ (C ++ c)) x → Contains (B ++ C) x ⊎ Contains (b ++ c) x
  second_cases = two_cases B b C c (C ++ c) (λ x. Contains-append_cases C c x)

  pub three_cases : (x : ℕ) → Contains ((A ++ a) ++ ((B ++ b) ++ (C ++ c))) x → Contains (A ++ (B ++ C)) x ⊎ Contains (a ++ (b ++ c)) x
  three_cases = two_cases A a (B ++ C) (b ++ c) ((B ++ b) ++ (C ++ c)) second_cases

  pub three_were : (x : ℕ) → Contains (A ++ (B ++ C)) x → Contains ((A ++ a) ++ ((B ++ b) ++ (C ++ c))) x
  three_were = two_was A a (B ++ C) (b ++ c) ((B ++ b) ++ (C ++ c)) (two_was B b C c (C ++ c) (λ x has. Contains-append_left C c x has))

  pub three_new : (x : ℕ) → Contains (a ++ (b ++ c)) x → Contains ((A ++ a) ++ ((B ++ b) ++ (C ++ c))) x
  three_new = two_new A a (B ++ C) (b ++ c) ((B ++ b) ++ (C ++ c)) (two_new B b C c (C ++ c) (λ x has. Contains-append_right C c x has))

  pub three_distinct : AreDistinct (A ++ (B ++ C)) → AreDistinct (a ++ (b ++ c))
      → ((x : ℕ) → Contains (A ++ (B ++ C)) x → ¬ (Contains (a ++ (b ++ c)) x)) → AreDistinct ((A ++ a) ++ ((B ++ b) ++ (C ++ c)))
  three_distinct were new apart =
      let second = two_apart A a (B ++ C) (b ++ c) ((B ++ b) ++ (C ++ c)) were new apart in
      let third = two_apart B b C c (C ++ c) second.0 second.1 second.2 in
      two_distinct A a (B ++ C) (b ++ c) ((B ++ b) ++ (C ++ c)) second_cases
      (two_distinct B b C c (C ++ c) (λ x. Contains-append_cases C c x) (distinct_append C c third.0 third.1 third.2) second.0 second.1
      second.2)
      were new apart

  -- the three lists without those after them
  pub three_split : AreDistinct ((A ++ a) ++ ((B ++ b) ++ (C ++ c)))
      → AreDistinct (A ++ (B ++ C)) × ((x : ℕ) → Contains (A ++ (B ++ C)) x → ¬ (Contains (a ++ (b ++ c)) x))
  three_split all =
      let rest = distinct_right (A ++ a) ((B ++ b) ++ (C ++ c)) all in
      let inner = split_two B b C c (C ++ c) (λ x has. Contains-append_left C c x has) (λ x has. Contains-append_right C c x has)
      (distinct_left C c (distinct_right (B ++ b) (C ++ c) rest)) (distinct_apart C c (distinct_right (B ++ b) (C ++ c) rest)) rest in
      split_two A a (B ++ C) (b ++ c) ((B ++ b) ++ (C ++ c)) (two_was B b C c (C ++ c) (λ x has. Contains-append_left C c x has))
      (two_new B b C c (C ++ c) (λ x has. Contains-append_right C c x has)) inner.0 inner.1 all
