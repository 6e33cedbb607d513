-- What one session is given in a release.
use Rattle.std.proofs.Common.{◌≡◌, ℕ, ◌≤◌, ◌<◌, ◌+◌, ◌-◌, ◌==◌, Bool, true, false, List, [], ◌∷◌, ◌++◌, length, take, refl, ap, sym, ◌∙◌}
use Rattle.std.proofs.Common.{subst, arith, append_assoc, length-append, length-take}
use Rattle.std.specs.Prelude.{◌||◌, nat_lt, if◌then◌else◌}
use Rattle.std.proofs.lemmas.List.{append-nil}
use Rattle.std.proofs.lemmas.Bool.{ltb-true}
use Rattle.std.proofs.lemmas.Bool.Decides.{nat_tests}
use Rattle.kernel_outbox.specs.Queue.{HeldOutput, Giving, nothing_more, cut_at, behind, give}
use Rattle.synchrony.specs.Dependency.{Output}
use Rattle.synchrony.specs.Progress.{EachFilled, Gives}
use Rattle.synchrony.proofs.Giving.{gives_go_on}
use Rattle.kernel_trace.specs.Traced.{without_ends, EndsLast}

-- what holds of what is given, where it holds of each of the three ways
module _ (P : ℕ → ℕ → List HeldOutput → Giving → Type 0) (p : ℕ)
    (none : (room given : ℕ) → P room given [] (nothing_more room given []))
    (stop : (room given : ℕ) (held : HeldOutput) (rest : List HeldOutput)
    → P room given (held ∷ rest) (nothing_more room given (held ∷ rest)))
    (cut : (room given : ℕ) (held : HeldOutput) (rest : List HeldOutput) → held.dependency ≤ p → room < length held.octets
    → P room given (held ∷ rest) (record {
      room = 0;
      octets = take room held.octets;
      ended = false;
      given = given;
      held = cut_at room held ∷ rest;
    }))
    (whole : (room given : ℕ) (held : HeldOutput) (rest : List HeldOutput) → held.dependency ≤ p → length held.octets ≤ room
    → P (room - length held.octets) held.dependency rest (give p (room - length held.octets) held.dependency rest)
    → P room given (held ∷ rest) (behind held (give p (room - length held.octets) held.dependency rest)))
  where
    pub give_cases : (room given : ℕ) (held : List HeldOutput) → P room given held (give p room given held)
    give_cases room given [] = none room given
    give_cases room given (held ∷ rest) =
        go (nat_lt p held.dependency || room == 0) (nat_lt room (length held.octets)) refl refl
        (give_cases (room - length held.octets) held.dependency rest)
      where
        go : (late cuts : Bool) → (nat_lt p held.dependency || room == 0) ≡ late → nat_lt room (length held.octets) ≡ cuts
            → P (room - length held.octets) held.dependency rest (give p (room - length held.octets) held.dependency rest)
            → P room given (held ∷ rest) (if late then nothing_more room given (held ∷ rest) else if cuts then record {
              room = 0;
              octets = take room held.octets;
              ended = false;
              given = given;
              held = cut_at room held ∷ rest;
            } else behind held (give p (room - length held.octets) held.dependency rest))
        go true cuts e f h = stop room given held rest
        go false true e f h = cut room given held rest (grind (arith, nat_tests)) (ltb-true room (length held.octets) f)
        go false false e f h = whole room given held rest (grind (arith, nat_tests)) (grind (arith, nat_tests)) h

-- no more is given than there is room for
pub give_room : (p room given : ℕ) (held : List HeldOutput) → length (give p room given held).octets + (give p room given held).room ≤ room
give_room p room given held =
    give_cases (λ room given held g. length g.octets + g.room ≤ room) p
    (λ room given. omega arith)
    (λ room given h rest. omega arith)
    (λ room given h rest near short. omega (arith, length-take room h.octets))
    (λ room given h rest near long later. omega (arith, length-append h.octets (give p (room - length h.octets) h.dependency rest).octets))
    room given held

-- the front of what is held is given
Goes : ℕ → List HeldOutput → Giving → Type 0
Goes p held g = (before : List Output) (before_given : List ℕ) → EachFilled (without_ends held)
    → Gives p before (without_ends held) before_given → Gives p before (without_ends g.held) (before_given ++ g.octets)

give_goes : (p room given : ℕ) (held : List HeldOutput) → Goes p held (give p room given held)
unfolding Goes
give_goes p room given held =
    give_cases (λ room given held g. Goes p held g) p
    (λ room given before was filled h. subst (Gives p before []) (sym (append-nil was)) h)
    (λ room given one rest before was filled h. subst (Gives p before (without_ends (one ∷ rest))) (sym (append-nil was)) h)
    (λ room given one rest near short before was filled h. gives_go_on.cut p before
    (record { octets = one.octets; dependency = one.dependency }) (without_ends rest) was room h near short)
    (λ room given one rest near long later before was filled h.
    let g : Giving = give p (room - length one.octets) one.dependency rest in
    subst (Gives p before (without_ends g.held)) (append_assoc was one.octets g.octets)
    (later before (was ++ one.octets) filled.1
    (gives_go_on.whole p before (record { octets = one.octets; dependency = one.dependency }) (without_ends rest) was h filled near)))
    room given held

pub give_gives : (p room given : ℕ) (held : List HeldOutput) → EachFilled (without_ends held)
    → Gives p (without_ends held) (without_ends (give p room given held).held) (give p room given held).octets
unfolding Goes
give_gives p room given held filled =
    give_goes p room given held (without_ends held) [] filled (gives_go_on.nothing p (without_ends held) filled)

-- an end goes last: a session that ended holds nothing more, and was closed; of another the last output held still ends it, where it is
-- closed
abbrev pub Ends : Bool → List HeldOutput → Giving → Type 0
Ends closed held g = EndsLast closed held → (g.ended ≡ true → (g.held ≡ []) × (closed ≡ true)) × (g.ended ≡ false → EndsLast closed g.held)

ends_cut : (closed : Bool) (room : ℕ) (held : HeldOutput) (rest : List HeldOutput) → EndsLast closed (held ∷ rest)
    → EndsLast closed (cut_at room held ∷ rest)
ends_cut closed room held [] h = h
ends_cut closed room held (next ∷ rest) h = h

ends_whole : (closed : Bool) (held : HeldOutput) (rest : List HeldOutput) (later : Giving)
    → ((next : HeldOutput) (others : List HeldOutput) → rest ≡ next ∷ others → Ends closed rest later)
    → (rest ≡ [] → (later.ended ≡ false) × (later.held ≡ [])) → Ends closed (held ∷ rest) (behind held later)
ends_whole closed held [] later more last h = go held.ends refl
  where
    none : (later.ended ≡ false) × (later.held ≡ [])
    none = last refl

    go : (b : Bool) → held.ends ≡ b → ((held.ends || later.ended) ≡ true → (later.held ≡ []) × (closed ≡ true))
        × ((held.ends || later.ended) ≡ false → EndsLast closed later.held)
    go true e = (λ _. (none.1, sym h ∙ e), λ f. absurd (let g : true ≡ false = sym (ap (λ b. b || later.ended) e) ∙ f in cc))
    go false e = (
      λ t. absurd (let g : true ≡ false = sym t ∙ (ap (λ b. b || later.ended) e ∙ none.0) in cc),
      λ _. subst (EndsLast closed) (sym none.1) (sym h ∙ e),
    )
ends_whole closed held (next ∷ rest) later more last h =
    let now = more next rest refl h.1 in
    let same : (held.ends || later.ended) ≡ later.ended = ap (λ b. b || later.ended) h.0 in
    (λ t. now.0 (sym same ∙ t), λ f. now.1 (sym same ∙ f))

pub give_ends : (closed : Bool) (p room given : ℕ) (held : List HeldOutput) → Ends closed held (give p room given held)
give_ends closed p room given held =
    give_cases (λ room given held g. Ends closed held g) p
    (λ room given h. (λ t. absurd (cc t), λ _. h))
    (λ room given one rest h. (λ t. absurd (cc t), λ _. h))
    (λ room given one rest near short h. (λ t. absurd (cc t), λ _. ends_cut closed room one rest h))
    (λ room given one rest near long later. ends_whole closed one rest (give p (room - length one.octets) one.dependency rest)
    (λ next others is. later)
    (λ none. subst (λ xs. ((give p (room - length one.octets) one.dependency xs).ended ≡ false)
    × ((give p (room - length one.octets) one.dependency xs).held ≡ [])) (sym none) (refl, refl)))
    room given held
