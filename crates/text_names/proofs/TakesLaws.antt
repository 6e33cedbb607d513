-- Which items of a pattern take which rest of a name.
use Rattle.std.specs.Prelude.{◌≡◌, ℕ, zero, suc, ◌+◌, ◌-◌, ◌<◌, ◌≤◌, Bool, true, false, cond, ◌||◌, ◌&&◌, ◌==◌, List, [], ◌∷◌, length, drop}
use Rattle.std.specs.Prelude.{get_or, map}
use Rattle.std.specs.List.{list_all}
use Rattle.std.proofs.Common.{◌∙◌, ap, sym, refl, inl, inr, arith, add-one}
use Rattle.std.proofs.Math.Bool.{or-false}
use Rattle.std.proofs.Math.Seq.{drop-cons}
use Rattle.std.proofs.lemmas.Bool.{cases_lt, cond-false, or_cases, or_left, or_right, and_parts, eqb-true}
use Rattle.std.proofs.lemmas.List.{drop_all}
use Rattle.model.specs.Names.{Item, AnyRun, AnyOne, Octet, item_of, takes}
use Rattle.text_names.specs.Patterns.{fits}

-- no items take no octets alone
takes_none-end : takes [] [] ≡ true
unfolding takes
takes_none-end = refl

takes_none-more : (x : ℕ) (name : List ℕ) → takes [] (x ∷ name) ≡ false
unfolding takes
takes_none-more x name = refl

-- * takes no octet, or one and goes on
takes_run-end : (items : List Item) → takes (AnyRun ∷ items) [] ≡ takes items []
unfolding takes
takes_run-end items = or-false (takes items [])

takes_run-more : (items : List Item) (x : ℕ) (name : List ℕ)
    → takes (AnyRun ∷ items) (x ∷ name) ≡ (takes items (x ∷ name) || takes (AnyRun ∷ items) name)
unfolding takes
takes_run-more items x name = refl

-- another item takes one octet that fits
module _ (c : ℕ) (one : (c == 42) ≡ false) (items : List Item) where
  takes_one-end : takes (item_of c ∷ items) [] ≡ false
  unfolding takes
  takes_one-end =
      ap (λ item. takes (item ∷ items) []) (cond-false (c == 42) AnyRun (cond (c == 63) AnyOne (Octet c)) one)
      ∙ elim (c == 63) as (λ b. takes (cond b AnyOne (Octet c) ∷ items) [] ≡ false) [ true ↦ refl | false ↦ refl ]

  takes_one-more : (x : ℕ) (name : List ℕ) → takes (item_of c ∷ items) (x ∷ name) ≡ (fits c x && takes items name)
  unfolding takes
  takes_one-more x name =
      ap (λ item. takes (item ∷ items) (x ∷ name)) (cond-false (c == 42) AnyRun (cond (c == 63) AnyOne (Octet c)) one)
      ∙ elim (c == 63) as (λ b. takes (cond b AnyOne (Octet c) ∷ items) (x ∷ name) ≡ ((b || (x == c)) && takes items name)) [
        | true ↦ refl
        | false ↦ refl
      ]

-- no octets are taken by items that are all *
pub takes-end : (items : List ℕ) → list_all (λ item. item == 42) items ≡ takes (map item_of items) []
takes-end [] = sym takes_none-end
takes-end (c ∷ items) = by_kind (c == 42) refl (takes-end items) where
  by_kind : (b : Bool) → (c == 42) ≡ b → list_all (λ item. item == 42) items ≡ takes (map item_of items) []
      → list_all (λ item. item == 42) (c ∷ items) ≡ takes (map item_of (c ∷ items)) []
  by_kind true is later =
      ap (λ b. b && list_all (λ item. item == 42) items) is
      ∙ later
      ∙ sym (takes_run-end (map item_of items))
      ∙ ap (λ i. takes (item_of i ∷ map item_of items) []) (sym (eqb-true c 42 is))
  by_kind false is later =
      ap (λ b. b && list_all (λ item. item == 42) items) is ∙ sym (takes_one-end c is (map item_of items))

-- the rest of a list at a place
rest_at : (xs : List ℕ) (k : ℕ) → k < length xs → drop k xs ≡ get_or xs k 0 ∷ drop (k + 1) xs
rest_at xs k within = drop-cons xs k 0 within ∙ ap (λ i. get_or xs k 0 ∷ drop i xs) (sym (add-one k))

-- some place from here on at which a test holds
pub record From (test : ℕ → Bool) (low : ℕ) : Type 0 where
  pub place : ℕ
  pub after : low ≤ place
  pub holds : test place ≡ true

module _ (items name : List ℕ) where
  -- whether the items from a place on take the rest of the name from a place on, alone or after a *
  abbrev pub tail_takes : ℕ → ℕ → Bool
  tail_takes at k = takes (map item_of (drop at items)) (drop k name)

  abbrev pub run_takes : ℕ → ℕ → Bool
  run_takes at k = takes (AnyRun ∷ map item_of (drop at items)) (drop k name)

  more_items : (at : ℕ) → at < length items → map item_of (drop at items) ≡ item_of (get_or items at 0) ∷ map item_of (drop (at + 1) items)
  more_items at within = ap (map item_of) (rest_at items at within)

  -- after the last item nothing is left
  pub tail-end : (k : ℕ) → k < length name → tail_takes (length items) k ≡ false
  tail-end k within =
      ap (λ l. takes (map item_of l) (drop k name)) (drop_all (length items) items (omega arith))
      ∙ ap (takes []) (rest_at name k within)
      ∙ takes_none-more (get_or name k 0) (drop (k + 1) name)

  pub tail-all : (k : ℕ) → length name ≤ k → tail_takes (length items) k ≡ true
  tail-all k after =
      ap (λ l. takes (map item_of l) (drop k name)) (drop_all (length items) items (omega arith))
      ∙ ap (takes []) (drop_all k name after)
      ∙ takes_none-end

  -- after the name * alone are left
  pub tail-name : (at k : ℕ) → length name ≤ k → tail_takes at k ≡ takes (map item_of (drop at items)) []
  tail-name at k after = ap (takes (map item_of (drop at items))) (drop_all k name after)

  -- * takes the rest from here on or from a later place on
  pub run-here : (at k : ℕ) → run_takes at k ≡ (tail_takes at k || run_takes at (k + 1))
  run-here at k = elim (cases_lt k (length name)) [
    | inl within ↦
        ap (takes (AnyRun ∷ map item_of (drop at items))) (rest_at name k within)
        ∙ takes_run-more (map item_of (drop at items)) (get_or name k 0) (drop (k + 1) name)
        ∙ ap (λ l. takes (map item_of (drop at items)) l || run_takes at (k + 1)) (sym (rest_at name k within))
    | inr after ↦
        ap (takes (AnyRun ∷ map item_of (drop at items))) (drop_all k name after)
        ∙ same (takes (AnyRun ∷ map item_of (drop at items)) []) (takes (map item_of (drop at items)) [])
        (takes_run-end (map item_of (drop at items)))
        ∙ ap (λ l. takes (map item_of (drop at items)) l || takes (AnyRun ∷ map item_of (drop at items)) []) (sym (drop_all k name after))
        ∙ ap (λ l. tail_takes at k || takes (AnyRun ∷ map item_of (drop at items)) l) (sym (drop_all (k + 1) name (omega arith)))
  ]
    where
      same : (a b : Bool) → a ≡ b → a ≡ (b || a)
      same a true is = is
      same a false is = refl

  pub tail-star : (at k : ℕ) → at < length items → get_or items at 0 ≡ 42 → tail_takes at k ≡ run_takes (at + 1) k
  tail-star at k within star =
      ap (λ l. takes l (drop k name)) (more_items at within ∙ ap (λ c. item_of c ∷ map item_of (drop (at + 1) items)) star)

  -- another item takes one octet that fits
  module _ (at : ℕ) (within : at < length items) (one : (get_or items at 0 == 42) ≡ false) where
    pub tail-one : (k : ℕ) → k < length name → tail_takes at k ≡ (fits (get_or items at 0) (get_or name k 0) && tail_takes (at + 1) (k + 1))
    tail-one k before =
        ap (λ l. takes l (drop k name)) (more_items at within)
        ∙ ap (takes (item_of (get_or items at 0) ∷ map item_of (drop (at + 1) items))) (rest_at name k before)
        ∙ takes_one-more (get_or items at 0) one (map item_of (drop (at + 1) items)) (get_or name k 0) (drop (k + 1) name)

    pub tail-one_past : (k : ℕ) → length name ≤ k → tail_takes at k ≡ false
    tail-one_past k after =
        ap (λ l. takes l (drop k name)) (more_items at within)
        ∙ ap (takes (item_of (get_or items at 0) ∷ map item_of (drop (at + 1) items))) (drop_all k name after)
        ∙ takes_one-end (get_or items at 0) one (map item_of (drop (at + 1) items))

    -- what it takes, the later items take after it
    pub tail-one_on : (k : ℕ) → tail_takes at k ≡ true → tail_takes (at + 1) (k + 1) ≡ true
    tail-one_on k taken = elim (cases_lt k (length name)) [
      | inl before ↦ (and_parts (fits (get_or items at 0) (get_or name k 0)) (tail_takes (at + 1) (k + 1)) (sym (tail-one k before)
          ∙ taken)).1
      | inr after ↦ absurd (cc (taken, tail-one_past k after))
    ]

  -- what * takes, the items after it take from some place on
  pub run-some : (left at k : ℕ) → length name ≤ k + left → run_takes at k ≡ true → From (tail_takes at) k
  run-some zero at k after taken =
      record {
        place = k;
        after = omega arith;
        holds =
            ap (takes (map item_of (drop at items))) (drop_all k name (omega arith))
            ∙ sym (takes_run-end (map item_of (drop at items)))
            ∙ ap (takes (AnyRun ∷ map item_of (drop at items))) (sym (drop_all k name (omega arith)))
            ∙ taken;
      }
  run-some (suc left) at k after taken = elim (or_cases (tail_takes at k) (run_takes at (k + 1)) (sym (run-here at k) ∙ taken)) [
    | inl here ↦ record { place = k; after = omega arith; holds = here }
    | inr later ↦
        let some = run-some left at (k + 1) (omega arith) later in
        record { place = some.place; after = omega (arith, some.after); holds = some.holds }
  ]

  -- what the items after * take from some place on, * takes
  pub run-before : (left at k : ℕ) → tail_takes at (k + left) ≡ true → run_takes at k ≡ true
  run-before zero at k taken =
      let here : k + 0 ≡ k = omega arith in
      run-here at k ∙ or_left (tail_takes at k) (run_takes at (k + 1)) (ap (tail_takes at) (sym here) ∙ taken)
  run-before (suc left) at k taken =
      let further : k + 1 + left ≡ k + suc left = omega arith in
      run-here at k ∙ or_right (tail_takes at k) (run_takes at (k + 1)) (run-before left at (k + 1) (ap (tail_takes at) further ∙ taken))

  pub run-earlier : (left at k : ℕ) → run_takes at (k + left) ≡ true → run_takes at k ≡ true
  run-earlier zero at k taken = let here : k + 0 ≡ k = omega arith in ap (run_takes at) (sym here) ∙ taken
  run-earlier (suc left) at k taken =
      let further : k + 1 + left ≡ k + suc left = omega arith in
      run-here at k ∙ or_right (tail_takes at k) (run_takes at (k + 1)) (run-earlier left at (k + 1) (ap (run_takes at) further ∙ taken))

  -- ---- a search that tries the items after a * at each place in turn

  absorbed : (a b : Bool) → (b ≡ true → a ≡ true) → (a || b) ≡ a
  absorbed true b either = refl
  absorbed false true either = sym (either refl)
  absorbed false false either = refl

  -- the items after the last * were taken up to `at`; later places take them as far
  module _ (behind at tried from : ℕ) (low : behind ≤ at) (so_far : tried + (at - behind) ≡ from) (later : (k : ℕ) → tried < k
      → tail_takes behind k ≡ true → tail_takes at (k + (at - behind)) ≡ true) where
    -- a further * takes what an earlier one could have taken
    pub star-further : at < length items → get_or items at 0 ≡ 42
        → (tail_takes at from || run_takes behind (tried + 1)) ≡ (tail_takes (at + 1) from || run_takes (at + 1) (from + 1))
    star-further within star =
        ap (λ b. b || run_takes behind (tried + 1)) (tail-star at from within star)
        ∙ absorbed (run_takes (at + 1) from) (run_takes behind (tried + 1)) earlier
        ∙ run-here (at + 1) from
      where
        earlier : run_takes behind (tried + 1) ≡ true → run_takes (at + 1) from ≡ true
        earlier taken =
            let some = run-some (length name) behind (tried + 1) (omega arith) taken in
            let place : ℕ = some.place + (at - behind) in
            let step : from + (place - from) ≡ place = omega (arith, some.after) in
            run-earlier (place - from) (at + 1) from
            (ap (run_takes (at + 1)) step ∙ sym (tail-star at place within star) ∙ later some.place (omega (arith, some.after)) some.holds)

    -- where the name ends later places take no more
    pub name-ends : length name ≤ from → (tail_takes at from || run_takes behind (tried + 1)) ≡ takes (map item_of (drop at items)) []
    name-ends ends = absorbed (tail_takes at from) (run_takes behind (tried + 1)) earlier ∙ tail-name at from ends where
      earlier : run_takes behind (tried + 1) ≡ true → tail_takes at from ≡ true
      earlier taken =
          let some = run-some (length name) behind (tried + 1) (omega arith) taken in
          tail-name at from ends
          ∙ sym (tail-name at (some.place + (at - behind)) (omega (arith, some.after)))
          ∙ later some.place (omega (arith, some.after)) some.holds
