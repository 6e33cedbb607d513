-- What a release gives out of the outputs that are held.
use Rattle.std.proofs.Common.{◌≡◌, ◌≢◌, ◌⊎◌, inl, inr, ℕ, zero, suc, ◌+◌, ◌-◌, ◌<◌, ◌≤◌, Bool, true, false, ◌||◌, List, [], ◌∷◌, ◌++◌}
use Rattle.std.proofs.Common.{length, take, drop, refl, sym, ◌∙◌, ap, subst, arith, append_assoc, length-append, ⊎_elim}
use Rattle.std.specs.Prelude.{map, slice_index_or}
use Rattle.std.specs.List.{concat, list_any}
use Rattle.std.proofs.lemmas.Bool.{cases_lt, lt-ltb, le-ltb, eq-eqb, ne_eqb, false≢true, or_cases, or_parts}
use Rattle.std.proofs.Math.Bool.{or_assoc}
use Rattle.std.proofs.lemmas.List.Sums.{sum_by-cons}
use Rattle.std.proofs.lemmas.List.{append-nil, length-take-le, take-append-drop}
use Rattle.kernel_outbox.specs.Queue.{HeldOutput, Giving, OnlyLastEnds, buffered, last_dependency, nothing_more, cut_at, behind, give}

-- ---- one step

abbrev pub cut_off : ℕ → ℕ → HeldOutput → List HeldOutput → Giving
cut_off room given front rest = record {
  room = 0;
  octets = take room front.octets;
  ended = false;
  given = given;
  held = cut_at room front ∷ rest;
}

-- the first output depends on more than p changes
pub give-late : (p room given : ℕ) (front : HeldOutput) (rest : List HeldOutput) → p < front.dependency
    → give p room given (front ∷ rest) ≡ nothing_more room given (front ∷ rest)
give-late p room given front rest late = rw (lt-ltb p front.dependency late)

-- there is no room
pub give-full : (p room given : ℕ) (held : List HeldOutput) → room ≡ 0 → give p room given held ≡ nothing_more room given held
give-full p room given [] none = refl
give-full p room given (front ∷ rest) none =
    ⊎_elim
    (λ (late : p < front.dependency). give-late p room given front rest late)
    (λ (near : front.dependency ≤ p). rw (le-ltb p front.dependency near, eq-eqb room 0 none))
    (cases_lt p front.dependency)

-- the first output fits in part
pub give-cut : (p room given : ℕ) (front : HeldOutput) (rest : List HeldOutput) → front.dependency ≤ p → 0 < room
    → room < length front.octets
    → give p room given (front ∷ rest) ≡ cut_off room given front rest
give-cut p room given front rest near some long =
    rw (le-ltb p front.dependency near, ne_eqb room 0 (λ none. absurd (omega arith)), lt-ltb room (length front.octets) long)

-- it fits whole
pub give-whole : (p room given : ℕ) (front : HeldOutput) (rest : List HeldOutput) → front.dependency ≤ p → 0 < room
    → length front.octets ≤ room
    → give p room given (front ∷ rest) ≡ behind front (give p (room - length front.octets) front.dependency rest)
give-whole p room given front rest near some short =
    rw (le-ltb p front.dependency near, ne_eqb room 0 (λ none. absurd (omega arith)), le-ltb room (length front.octets) short)

-- what holds of each case holds of what is given
pub give-cases : (P : Giving → Type 0) (p room given : ℕ) (front : HeldOutput) (rest : List HeldOutput)
    → P (nothing_more room given (front ∷ rest))
    → (front.dependency ≤ p → 0 < room → room < length front.octets → P (cut_off room given front rest))
    → (front.dependency ≤ p → 0 < room → length front.octets ≤ room
    → P (behind front (give p (room - length front.octets) front.dependency rest)))
    → P (give p room given (front ∷ rest))
give-cases P p room given front rest none cut whole =
    ⊎_elim
    (λ (late : p < front.dependency). subst P (sym (give-late p room given front rest late)) none)
    (λ (near : front.dependency ≤ p).
    ⊎_elim
    (λ (full : room < 1). subst P (sym (give-full p room given (front ∷ rest) (omega arith))) none)
    (λ (some : 1 ≤ room).
    ⊎_elim
    (λ (long : room < length front.octets). subst P (sym (give-cut p room given front rest near (omega arith) long))
    (cut near (omega arith) long))
    (λ (short : length front.octets ≤ room). subst P (sym (give-whole p room given front rest near (omega arith) short))
    (whole near (omega arith) short))
    (cases_lt room (length front.octets)))
    (cases_lt room 1))
    (cases_lt p front.dependency)

-- ---- all octets, in order

-- the octets of these outputs
abbrev pub octets_held : List HeldOutput → List ℕ
octets_held held = concat (map (λ (h : HeldOutput). h.octets) held)

-- the octets that are given and those that are kept are those that were held
pub give-octets : (p room given : ℕ) (held : List HeldOutput)
    → (give p room given held).octets ++ octets_held (give p room given held).held ≡ octets_held held
give-octets p room given [] = refl
give-octets p room given (front ∷ rest) =
    give-cases (λ g. g.octets ++ octets_held g.held ≡ octets_held (front ∷ rest)) p room given front rest
    refl
    (λ near some long. sym (append_assoc (take room front.octets) (drop room front.octets) (octets_held rest))
    ∙ ap (λ octets. octets ++ octets_held rest) (take-append-drop room front.octets))
    (λ near some short.
    let later = give p (room - length front.octets) front.dependency rest in
    append_assoc front.octets later.octets (octets_held later.held)
    ∙ ap (λ octets. front.octets ++ octets) (give-octets p (room - length front.octets) front.dependency rest))

-- the room that is left, and the octets that are given
pub give-room : (p room given : ℕ) (held : List HeldOutput) → (give p room given held).room + length (give p room given held).octets ≡ room
give-room p room given [] = omega arith
give-room p room given (front ∷ rest) =
    give-cases (λ g. g.room + length g.octets ≡ room) p room given front rest
    (omega arith)
    (λ near some long. omega (arith, length-take-le room front.octets))
    (λ near some short. omega (
      arith,
      give-room p (room - length front.octets) front.dependency rest,
      length-append front.octets (give p (room - length front.octets) front.dependency rest).octets,
    ))

pub give-short : (p room given : ℕ) (held : List HeldOutput) → length (give p room given held).octets ≤ room
give-short p room given held = omega (arith, give-room p room given held)

-- how many octets are given and kept
pub length-octets_held : (held : List HeldOutput) → length (octets_held held) ≡ buffered held
length-octets_held [] = refl
length-octets_held (front ∷ rest) =
    omega (
      arith,
      length-append front.octets (octets_held rest),
      length-octets_held rest,
      sum_by-cons (λ (h : HeldOutput). length h.octets) front rest,
    )

pub give-buffered : (p room given : ℕ) (held : List HeldOutput)
    → length (give p room given held).octets + buffered (give p room given held).held ≡ buffered held
give-buffered p room given held =
    let g = give p room given held in
    omega (
      arith,
      length-append g.octets (octets_held g.held),
      ap length (give-octets p room given held),
      length-octets_held g.held,
      length-octets_held held,
    )

-- ---- the last output

-- the dependency of the last output that is held
pub last_dependency-back : (given : ℕ) (held : List HeldOutput) (n : ℕ) (last : HeldOutput) → suc n ≡ length held
    → last ≡ slice_index_or held n last
    → last.dependency ≡ last_dependency given held
last_dependency-back given [] n last size is = absurd (omega arith)
last_dependency-back given (front ∷ []) zero last size is = ap (λ (h : HeldOutput). h.dependency) is
last_dependency-back given (front ∷ []) (suc n) last size is = absurd (omega arith)
last_dependency-back given (front ∷ next ∷ rest) zero last size is = absurd (omega arith)
last_dependency-back given (front ∷ next ∷ rest) (suc n) last size is =
    last_dependency-back front.dependency (next ∷ rest) n last (omega arith) is

-- a release leaves it: with the number kept where none is held
pub give-last_dependency : (p room given : ℕ) (held : List HeldOutput)
    → last_dependency (give p room given held).given (give p room given held).held ≡ last_dependency given held
give-last_dependency p room given [] = refl
give-last_dependency p room given (front ∷ rest) =
    give-cases (λ g. last_dependency g.given g.held ≡ last_dependency given (front ∷ rest)) p room given front rest
    refl
    (λ near some long. refl)
    (λ near some short. give-last_dependency p (room - length front.octets) front.dependency rest)

-- ---- step by step

-- What holds of the number kept, the outputs held and the octets given, and still holds when the first output is given
-- whole or cut, holds of what a release leaves and gives.
pub give-steps : (P : ℕ → List HeldOutput → List ℕ → Type 0) (p : ℕ)
    → ((given : ℕ) (front : HeldOutput) (rest : List HeldOutput) (octets : List ℕ) → front.dependency ≤ p → P given (front ∷ rest) octets
    → P front.dependency rest (octets ++ front.octets))
    → ((given count : ℕ) (front : HeldOutput) (rest : List HeldOutput) (octets : List ℕ) → front.dependency ≤ p → 0 < count
    → count < length front.octets → P given (front ∷ rest) octets
    → P given (cut_at count front ∷ rest) (octets ++ take count front.octets))
    → (room given : ℕ) (held : List HeldOutput) (octets : List ℕ) → P given held octets
    → P (give p room given held).given (give p room given held).held (octets ++ (give p room given held).octets)
give-steps P p whole cut room given [] octets h = subst (P given []) (sym (append-nil octets)) h
give-steps P p whole cut room given (front ∷ rest) octets h =
    give-cases (λ g. P g.given g.held (octets ++ g.octets)) p room given front rest
    (subst (P given (front ∷ rest)) (sym (append-nil octets)) h)
    (λ near some long. cut given room front rest octets near some long h)
    (λ near some short.
    let later = give p (room - length front.octets) front.dependency rest in
    subst (P later.given later.held) (append_assoc octets front.octets later.octets)
    (give-steps P p whole cut (room - length front.octets) front.dependency rest (octets ++ front.octets)
    (whole given front rest octets near h)))

-- ---- on what the given octets depend

-- each output of which an octet is among the first count depends on p changes at most
abbrev pub GivenWithin : ℕ → ℕ → List HeldOutput → Type 0
GivenWithin p count [] = Unit {0}
GivenWithin p count (front ∷ rest) =
    (0 < count → front.octets ≢ [] → front.dependency ≤ p) × GivenWithin p (count - length front.octets) rest

GivenWithin-none : (p count : ℕ) (held : List HeldOutput) → count ≡ 0 → GivenWithin p count held
GivenWithin-none p count [] none = tt
GivenWithin-none p count (front ∷ rest) none =
    ((λ some filled. absurd (omega arith)), GivenWithin-none p (count - length front.octets) rest (omega arith))

pub give-within : (p room given : ℕ) (held : List HeldOutput) → GivenWithin p (length (give p room given held).octets) held
give-within p room given [] = tt
give-within p room given (front ∷ rest) =
    give-cases (λ g. GivenWithin p (length g.octets) (front ∷ rest)) p room given front rest
    (GivenWithin-none p 0 (front ∷ rest) refl)
    (λ near some long. (
      (λ _ _. near),
      GivenWithin-none p (length (take room front.octets) - length front.octets) rest (omega (arith, length-take-le room front.octets)),
    ))
    (λ near some short.
    let later = give p (room - length front.octets) front.dependency rest in
    let count : length later.octets ≡ length (front.octets ++ later.octets) - length front.octets =
    omega (arith, length-append front.octets later.octets) in
    ((λ _ _. near), subst (λ n. GivenWithin p n rest) count (give-within p (room - length front.octets) front.dependency rest)))

-- ---- ends

-- whether one of these outputs ends the session
abbrev pub any_ends : List HeldOutput → Bool
any_ends held = list_any (λ (h : HeldOutput). h.ends) held

-- no end is lost, and none comes from nowhere
pub give-ends : (p room given : ℕ) (held : List HeldOutput)
    → ((give p room given held).ended || any_ends (give p room given held).held) ≡ any_ends held
give-ends p room given [] = refl
give-ends p room given (front ∷ rest) =
    give-cases (λ g. (g.ended || any_ends g.held) ≡ any_ends (front ∷ rest)) p room given front rest
    refl
    (λ near some long. refl)
    (λ near some short.
    let later = give p (room - length front.octets) front.dependency rest in
    or_assoc front.ends later.ended (any_ends later.held)
    ∙ ap (λ ends. front.ends || ends) (give-ends p (room - length front.octets) front.dependency rest))

-- an end comes after all octets
pub give-ended : (p room given : ℕ) (held : List HeldOutput) → OnlyLastEnds held → (give p room given held).ended ≡ true
    → (give p room given held).held ≡ []
give-ended p room given [] last ended = refl
give-ended p room given (front ∷ rest) last ended =
    give-cases (λ g. g.ended ≡ true → g.held ≡ []) p room given front rest
    (λ is. absurd (false≢true is))
    (λ near some long is. absurd (false≢true is))
    (λ near some short is.
    let left = room - length front.octets in
    ⊎_elim
    (λ (own : front.ends ≡ true). subst (λ held. (give p left front.dependency held).held ≡ []) (sym (last.0 own)) refl)
    (λ (later : (give p left front.dependency rest).ended ≡ true). give-ended p left front.dependency rest last.1 later)
    (or_cases front.ends (give p left front.dependency rest).ended is))
    ended

pub give-OnlyLastEnds : (p room given : ℕ) (held : List HeldOutput) → OnlyLastEnds held → OnlyLastEnds (give p room given held).held
give-OnlyLastEnds p room given [] last = tt
give-OnlyLastEnds p room given (front ∷ rest) last =
    give-cases (λ g. OnlyLastEnds g.held) p room given front rest
    last
    (λ near some long. last)
    (λ near some short. give-OnlyLastEnds p (room - length front.octets) front.dependency rest last.1)

pub OnlyLastEnds-push : (held : List HeldOutput) (more : HeldOutput) → OnlyLastEnds held → any_ends held ≡ false
    → OnlyLastEnds (held ++ more ∷ [])
OnlyLastEnds-push [] more last none = ((λ ends. refl), tt)
OnlyLastEnds-push (front ∷ rest) more last none =
    let own = or_parts front.ends (any_ends rest) none in
    ((λ ends. absurd (false≢true (sym own.0 ∙ ends))), OnlyLastEnds-push rest more last.1 own.1)

-- ---- what is kept

-- the outputs that are kept are the last of those that were held, the first of them perhaps cut
pub record IsRest (held kept : List HeldOutput) : Type 0 where
  pub before : List HeldOutput
  pub front : HeldOutput
  pub after : List HeldOutput
  pub cut : ℕ
  pub held_is : held ≡ before ++ front ∷ after
  pub kept_is : kept ≡ cut_at cut front ∷ after
  pub cut_is : (cut ≡ 0) ⊎ (cut < length front.octets)

IsRest-behind : (first : HeldOutput) (held kept : List HeldOutput) → IsRest held kept → IsRest (first ∷ held) kept
IsRest-behind first held kept h = record {
  before = first ∷ h.before;
  front = h.front;
  after = h.after;
  cut = h.cut;
  held_is = ap (λ xs. first ∷ xs) h.held_is;
  kept_is = h.kept_is;
  cut_is = h.cut_is;
}

pub give-rest : (p room given : ℕ) (held : List HeldOutput)
    → ((give p room given held).held ≡ []) ⊎ IsRest held (give p room given held).held
give-rest p room given [] = inl refl
give-rest p room given (front ∷ rest) =
    give-cases (λ g. (g.held ≡ []) ⊎ IsRest (front ∷ rest) g.held) p room given front rest
    (inr (record { before = []; front = front; after = rest; cut = 0; held_is = refl; kept_is = refl; cut_is = inl refl }))
    (λ near some long. inr (record {
      before = [];
      front = front;
      after = rest;
      cut = room;
      held_is = refl;
      kept_is = refl;
      cut_is = inr long;
    }))
    (λ near some short.
    let later = give p (room - length front.octets) front.dependency rest in
    ⊎_elim
    (λ (none : later.held ≡ []). inl none)
    (λ (some : IsRest rest later.held). inr (IsRest-behind front rest later.held some))
    (give-rest p (room - length front.octets) front.dependency rest))
