-- Runs of collected octets, from a place on.
use Rattle.std.proofs.Common.{◌≡◌, ◌<◌, ◌≤◌, ◌==◌, ℕ, zero, suc, ◌+◌, ◌-◌, if◌then◌else◌, Bool, true, false, List, [], ◌∷◌, ◌++◌, length}
use Rattle.std.proofs.Common.{inl, inr, ◌⊎◌, get_or, map, drop, Option, Some, None, refl, ◌∙◌, ap, arith}
use Rattle.std.proofs.lemmas.Bool.{cases_Bool, eq-eqb, ne_eqb, eqb-true}
use Rattle.disk_cache.specs.Runs.{Run, join, runs_from}

some_none : (octet : ℕ) → Some octet ≡ None → ⊥
some_none octet is = cc

none_some : (octet : ℕ) → None ≡ Some octet → ⊥
none_some octet is = cc

abbrev pub joins : ℕ → ℕ → Bool
joins at place = place == at + 1

abbrev pub lone : ℕ → ℕ → Run
lone at octet = record { at = at; octets = octet ∷ [] }

abbrev pub longer : ℕ → ℕ → Run → Run
longer at octet run = record { at = at; octets = octet ∷ run.octets }

-- a run that begins at or behind a place
abbrev pub Behind : ℕ → List Run → Type 0
Behind at [] = Unit {0}
Behind at (run ∷ runs) = at ≤ run.at

-- an octet in front doesn't join them
abbrev pub StandsApart : ℕ → List Run → Type 0
StandsApart at [] = Unit {0}
StandsApart at (run ∷ runs) = joins at run.at ≡ false

apart_behind : (at : ℕ) (runs : List Run) → Behind (at + 2) runs → StandsApart at runs
apart_behind at [] behind = tt
apart_behind at (run ∷ runs) behind = ne_eqb run.at (at + 1) (λ is. omega (arith, is, behind))

behind_weaker : (at to : ℕ) (runs : List Run) → at ≤ to → Behind to runs → Behind at runs
behind_weaker at to [] below behind = tt
behind_weaker at to (run ∷ runs) below behind = omega (arith, below, behind)

pub join_apart : (at octet : ℕ) (runs : List Run) → StandsApart at runs → join at octet runs ≡ lone at octet ∷ runs
unfolding join
join_apart at octet [] apart = refl
join_apart at octet (run ∷ runs) apart =
    ap (λ (b : Bool). if b then longer at octet run ∷ runs else lone at octet ∷ run ∷ runs) apart

join_joins : (at octet : ℕ) (run : Run) (runs : List Run) → joins at run.at ≡ true → join at octet (run ∷ runs) ≡ longer at octet run ∷ runs
unfolding join
join_joins at octet run runs is =
    ap (λ (b : Bool). if b then longer at octet run ∷ runs else lone at octet ∷ run ∷ runs) is

pub join_behind : (at octet : ℕ) (run : Run) (runs : List Run) → run.at ≡ at + 1 → join at octet (run ∷ runs) ≡ longer at octet run ∷ runs
join_behind at octet run runs is = join_joins at octet run runs (eq-eqb run.at (at + 1) is)

-- what an octet in front leaves, either way
pub join_cases : (P : List Run → Type 0) (at octet : ℕ) (runs : List Run) → P (lone at octet ∷ runs)
    → ((run : Run) (rest : List Run) → runs ≡ run ∷ rest → run.at ≡ at + 1 → P (longer at octet run ∷ rest)) → P (join at octet runs)
unfolding join
join_cases P at octet [] alone joined = alone
join_cases P at octet (run ∷ runs) alone joined = choose (cases_Bool (joins at run.at))
  where
    choose : (joins at run.at ≡ true) ⊎ (joins at run.at ≡ false) → P (join at octet (run ∷ runs))
    choose (inl is) = rw is (joined run runs refl (eqb-true run.at (at + 1) is))
    choose (inr other) = rw other alone

runs_behind : (cs : List (Option ℕ)) (at : ℕ) → Behind at (runs_from at cs)
runs_behind [] at = tt
runs_behind (None ∷ rest) at = behind_weaker at (at + 1) (runs_from (at + 1) rest) (omega arith) (runs_behind rest (at + 1))
runs_behind (Some octet ∷ rest) at =
    join_cases (λ (runs : List Run). Behind at runs) at octet (runs_from (at + 1) rest) (omega arith) (λ run runs is place. omega arith)

-- places without an octet are passed over
pub runs_skip : (n at : ℕ) (cs : List (Option ℕ)) → ((k : ℕ) → k < n → get_or cs k None ≡ None)
    → runs_from at cs ≡ runs_from (at + n) (drop n cs)
runs_skip zero at cs none =
    let same : at ≡ at + zero = omega arith in
    ap (λ (k : ℕ). runs_from k cs) same
runs_skip (suc n) at [] none = refl
runs_skip (suc n) at (None ∷ rest) none =
    let same : at + 1 + n ≡ at + suc n = omega arith in
    runs_skip n (at + 1) rest (λ k low. none (suc k) (omega arith)) ∙ ap (λ (k : ℕ). runs_from k (drop n rest)) same
runs_skip (suc n) at (Some octet ∷ rest) none = absurd (some_none octet (none zero (omega arith)))

-- no run begins right behind a place where no octet was collected
apart_at_a_gap : (at place : ℕ) (rest : List (Option ℕ)) → place ≡ at + 1 → get_or rest 0 None ≡ None
    → StandsApart at (runs_from place rest)
apart_at_a_gap at place [] here none = tt
apart_at_a_gap at place (None ∷ later) here none =
    apart_behind at (runs_from (place + 1) later)
    (behind_weaker (at + 2) (place + 1) (runs_from (place + 1) later) (omega (arith, here)) (runs_behind later (place + 1)))
apart_at_a_gap at place (Some o ∷ later) here none = absurd (some_none o none)

-- a run in front, which ends where no octet was collected
pub runs_front : (os : List ℕ) (octet at : ℕ) (rest : List (Option ℕ)) → get_or rest 0 None ≡ None
    → runs_from at (Some octet ∷ (map (λ (o : ℕ). Some o) os ++ rest)) ≡ record {
      at = at;
      octets = octet ∷ os;
    } ∷ runs_from (at + length os + 1) rest
runs_front [] octet at rest ends =
    let same : at + 1 ≡ at + 0 + 1 = omega arith in
    join_apart at octet (runs_from (at + 1) rest) (apart_at_a_gap at (at + 1) rest refl ends)
    ∙ ap (λ (k : ℕ). lone at octet ∷ runs_from k rest) same
runs_front (o ∷ os) octet at rest ends =
    let same : at + 1 + length os + 1 ≡ at + suc (length os) + 1 = omega arith in
    ap (λ (runs : List Run). join at octet runs) (runs_front os o (at + 1) rest ends)
    ∙ join_behind at octet (record { at = at + 1; octets = o ∷ os }) (runs_from (at + 1 + length os + 1) rest) refl
    ∙ ap (λ (k : ℕ). record { at = at; octets = octet ∷ o ∷ os } ∷ runs_from k rest) same

join_append : (at octet : ℕ) (front back : List Run) → (front ≡ [] → StandsApart at back)
    → join at octet (front ++ back) ≡ join at octet front ++ back
unfolding join
join_append at octet [] back apart = join_apart at octet back (apart refl)
join_append at octet (run ∷ runs) back apart = choose (joins at run.at)
  where
    choose : (b : Bool) → (if b then longer at octet run ∷ (runs ++ back) else lone at octet ∷ run ∷ (runs ++ back))
        ≡ (if b then longer at octet run ∷ runs else lone at octet ∷ run ∷ runs) ++ back
    choose true = refl
    choose false = refl

-- no run goes over a place where no octet was collected
pub runs_split : (xs ys : List (Option ℕ)) (at : ℕ) → get_or ys 0 None ≡ None
    → runs_from at (xs ++ ys) ≡ runs_from at xs ++ runs_from (at + length xs) ys
runs_split [] ys at gap =
    let same : at ≡ at + 0 = omega arith in
    ap (λ (k : ℕ). runs_from k ys) same
runs_split (None ∷ xs) ys at gap =
    let same : at + 1 + length xs ≡ at + suc (length xs) = omega arith in
    runs_split xs ys (at + 1) gap ∙ ap (λ (k : ℕ). runs_from (at + 1) xs ++ runs_from k ys) same
runs_split (Some octet ∷ xs) ys at gap =
    let same : at + 1 + length xs ≡ at + suc (length xs) = omega arith in
    ap (λ (runs : List Run). join at octet runs) (runs_split xs ys (at + 1) gap)
    ∙ join_append at octet (runs_from (at + 1) xs) (runs_from (at + 1 + length xs) ys) (λ none. apart xs)
    ∙ ap (λ (k : ℕ). join at octet (runs_from (at + 1) xs) ++ runs_from k ys) same
  where
    apart : (xs : List (Option ℕ)) → StandsApart at (runs_from (at + 1 + length xs) ys)
    apart [] = apart_at_a_gap at (at + 1 + 0) ys (omega arith) gap
    apart (x ∷ xs) =
        apart_behind at (runs_from (at + 1 + suc (length xs)) ys)
        (behind_weaker (at + 2) (at + 1 + suc (length xs)) (runs_from (at + 1 + suc (length xs)) ys) (omega arith)
        (runs_behind ys (at + 1 + suc (length xs))))

-- the runs depend on the octets by their places alone
pub runs_same : (xs ys : List (Option ℕ)) (at : ℕ) → ((k : ℕ) → get_or xs k None ≡ get_or ys k None) → runs_from at xs ≡ runs_from at ys
runs_same [] [] at same = refl
runs_same [] (None ∷ ys) at same = runs_same [] ys (at + 1) (λ k. same (suc k))
runs_same [] (Some o ∷ ys) at same = absurd (none_some o (same zero))
runs_same (None ∷ xs) [] at same = runs_same xs [] (at + 1) (λ k. same (suc k))
runs_same (Some o ∷ xs) [] at same = absurd (some_none o (same zero))
runs_same (None ∷ xs) (None ∷ ys) at same = runs_same xs ys (at + 1) (λ k. same (suc k))
runs_same (None ∷ xs) (Some o ∷ ys) at same = absurd (none_some o (same zero))
runs_same (Some o ∷ xs) (None ∷ ys) at same = absurd (some_none o (same zero))
runs_same (Some o ∷ xs) (Some p ∷ ys) at same =
    ap (λ (runs : List Run). join at o runs) (runs_same xs ys (at + 1) (λ k. same (suc k)))
    ∙ ap (λ (octet : ℕ). join at octet (runs_from (at + 1) ys)) (octets o p (same zero))
  where
    octets : (a b : ℕ) → Some a ≡ Some b → a ≡ b
    octets a b is = cc

-- a run holds collected octets
pub record IsPart (cs : List (Option ℕ)) (at : ℕ) (run : Run) : Type 0 where
  pub low : at ≤ run.at
  pub high : run.at + length run.octets ≤ at + length cs
  pub each : (i : ℕ) → i < length run.octets → get_or cs (run.at - at + i) None ≡ Some (get_or run.octets i 0)

abbrev pub AreParts : List (Option ℕ) → ℕ → List Run → Type 0
AreParts cs at [] = Unit {0}
AreParts cs at (run ∷ runs) = IsPart cs at run × AreParts cs at runs

part_behind : (c : Option ℕ) (cs : List (Option ℕ)) (at : ℕ) (run : Run) → IsPart cs (at + 1) run → IsPart (c ∷ cs) at run
part_behind c cs at run is = record {
  low = omega (arith, is.low);
  high = omega (arith, is.high);
  each = λ i within.
      let place : run.at - at + i ≡ suc (run.at - (at + 1) + i) = omega (arith, is.low) in
      ap (λ (k : ℕ). get_or (c ∷ cs) k None) place ∙ is.each i within;
}

parts_behind : (c : Option ℕ) (cs : List (Option ℕ)) (at : ℕ) (runs : List Run) → AreParts cs (at + 1) runs → AreParts (c ∷ cs) at runs
parts_behind c cs at [] are = tt
parts_behind c cs at (run ∷ runs) are = (part_behind c cs at run are.0, parts_behind c cs at runs are.1)

lone_part : (octet : ℕ) (cs : List (Option ℕ)) (at : ℕ) → IsPart (Some octet ∷ cs) at (lone at octet)
lone_part octet cs at = record {
  low = omega arith;
  high = omega arith;
  each = λ i within. first i within;
}
  where
    first : (i : ℕ) → i < 1 → get_or (Some octet ∷ cs) (at - at + i) None ≡ Some (get_or (octet ∷ []) i 0)
    first zero within = let place : at - at + zero ≡ zero = omega arith in ap (λ (k : ℕ). get_or (Some octet ∷ cs) k None) place
    first (suc i) within = absurd (omega (arith, within))

longer_part : (octet : ℕ) (cs : List (Option ℕ)) (at : ℕ) (run : Run) → run.at ≡ at + 1 → IsPart cs (at + 1) run
    → IsPart (Some octet ∷ cs) at (longer at octet run)
longer_part octet cs at run place_is is = record {
  low = omega arith;
  high = omega (arith, is.high, place_is);
  each = λ i within. each i within;
}
  where
    each : (i : ℕ) → i < suc (length run.octets) → get_or (Some octet ∷ cs) (at - at + i) None ≡ Some (get_or (octet ∷ run.octets) i 0)
    each zero within = let place : at - at + zero ≡ zero = omega arith in ap (λ (k : ℕ). get_or (Some octet ∷ cs) k None) place
    each (suc i) within =
        let place : at - at + suc i ≡ suc (run.at - (at + 1) + i) = omega (arith, place_is) in
        ap (λ (k : ℕ). get_or (Some octet ∷ cs) k None) place ∙ is.each i (omega (arith, within))

joined_parts : (octet : ℕ) (cs : List (Option ℕ)) (at : ℕ) (run : Run) (rest : List Run) → run.at ≡ at + 1
    → AreParts cs (at + 1) (run ∷ rest) → AreParts (Some octet ∷ cs) at (longer at octet run ∷ rest)
joined_parts octet cs at run rest place are = (longer_part octet cs at run place are.0, parts_behind (Some octet) cs at rest are.1)

join_parts : (octet : ℕ) (cs : List (Option ℕ)) (at : ℕ) (runs : List Run) → AreParts cs (at + 1) runs
    → AreParts (Some octet ∷ cs) at (join at octet runs)
join_parts octet cs at runs are =
    join_cases (λ (all : List Run). AreParts cs (at + 1) runs → AreParts (Some octet ∷ cs) at all) at octet runs
    (λ are. (lone_part octet cs at, parts_behind (Some octet) cs at runs are))
    (λ run rest is place are. joined_parts octet cs at run rest place (rw is at are))
    are

pub runs_parts : (cs : List (Option ℕ)) (at : ℕ) → AreParts cs at (runs_from at cs)
runs_parts [] at = tt
runs_parts (None ∷ cs) at = parts_behind None cs at (runs_from (at + 1) cs) (runs_parts cs (at + 1))
runs_parts (Some octet ∷ cs) at = join_parts octet cs at (runs_from (at + 1) cs) (runs_parts cs (at + 1))
