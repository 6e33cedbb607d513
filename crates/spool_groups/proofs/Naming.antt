-- Names and their places.
use Rattle.std.proofs.Common.{◌≡◌, ◌≢◌, inl, inr, ℕ, zero, suc, ◌+◌, ◌<◌, List, [], ◌∷◌, ◌++◌, length, map, get_or, set, refl, sym, ◌∙◌, ap}
use Rattle.std.proofs.Common.{subst, arith, Bool, true, false, cond, length-append}
use Rattle.std.specs.Prelude.{Some, None, bytes_eq}
use Rattle.std.specs.List.{list_any}
use Rattle.std.proofs.lemmas.Bool.{cases_lt, or_parts, true≢false}
use Rattle.std.proofs.lemmas.List.{length-map, get_or-map, map_push}
use Rattle.std.proofs.lemmas.Option.{same_Some}
use Rattle.std.proofs.lemmas.Slice.Eq.{bytes_eq-Decides}
use Rattle.model.specs.Stream.{Octets}
use Rattle.model.specs.Indexed.{GroupIndex, value_of}
use Rattle.model.proofs.Joined.{bytes_differ}
use Rattle.spool_groups.specs.Naming.{AreNamed, IsNamed, heads, name_at}

abbrev pub Places : Type 0
Places = List (Octets × ℕ)

pub within : {R : Type 0} (sh : R → GroupIndex) (gs : List R) (places : Places) (name : Octets) (k : ℕ)
    → AreNamed places (heads (map sh gs)) → value_of places name ≡ Some k → k < length gs
within sh gs places name k named is =
    let low = (named.from name k is).there in
    omega (arith, length-map (map sh gs) (λ (i : GroupIndex). i.group.name), length-map gs sh, low)

-- no other place has the name
pub others : (places : Places) (names : List Octets) (name : Octets) (k j : ℕ) → AreNamed places names → value_of places name ≡ Some k
    → j < length names → j ≢ k → bytes_eq name (name_at names j) ≡ false
others places names name k j named is low other =
    bytes_differ name (name_at names j) (λ same. other (sym (same_Some k j (sym is ∙ ap (value_of places) same ∙ named.to j low))))

pub here : (places : Places) (names : List Octets) (name : Octets) (k : ℕ) → AreNamed places names → value_of places name ≡ Some k
    → bytes_eq name (name_at names k) ≡ true
here places names name k named is = (bytes_eq-Decides name (name_at names k)).1 (sym (named.from name k is).its)

pub nowhere : (places : Places) (names : List Octets) (name : Octets) (j : ℕ) → AreNamed places names → value_of places name ≡ None
    → j < length names → bytes_eq name (name_at names j) ≡ false
nowhere places names name j named none low =
    bytes_differ name (name_at names j) (λ same. absurd (let both : None ≡ Some j = sym none ∙ ap (value_of places) same ∙ named.to j low in
    cc))

-- the name of an element
pub named_at : (gs : List GroupIndex) (k : ℕ) (d : GroupIndex) → k < length gs → name_at (heads gs) k ≡ (get_or gs k d).group.name
named_at gs k d low = get_or-map (λ (i : GroupIndex). i.group.name) gs k d [] low

-- ---- one name more

at_front : (names : List Octets) (name : Octets) (j : ℕ) → j < length names → name_at (names ++ name ∷ []) j ≡ name_at names j
at_front [] name j low = absurd (omega arith)
at_front (n ∷ names) name zero low = refl
at_front (n ∷ names) name (suc j) low = at_front names name j (omega arith)

at_end : (names : List Octets) (name : Octets) → name_at (names ++ name ∷ []) (length names) ≡ name
at_end [] name = refl
at_end (n ∷ names) name = at_end names name

all_differ : (name : Octets) (names : List Octets) (j : ℕ) → list_any (bytes_eq name) names ≡ false → j < length names
    → bytes_eq name (name_at names j) ≡ false
all_differ name [] j none low = absurd (omega arith)
all_differ name (n ∷ names) zero none low = (or_parts (bytes_eq name n) (list_any (bytes_eq name) names) none).0
all_differ name (n ∷ names) (suc j) none low =
    all_differ name names j (or_parts (bytes_eq name n) (list_any (bytes_eq name) names) none).1 (omega arith)

pub named_more : (places more : Places) (names : List Octets) (name : Octets) → AreNamed places names
    → list_any (bytes_eq name) names ≡ false
    → ((q : Octets) → value_of more q ≡ cond (bytes_eq q name) (Some (length names)) (value_of places q))
    → AreNamed more (names ++ name ∷ [])
named_more places more names name named new is = record { from = from; to = to } where
  size : length (names ++ name ∷ []) ≡ length names + 1
  size = length-append names (name ∷ [])

  old : (q : Octets) (k : ℕ) → value_of places q ≡ Some k → IsNamed (names ++ name ∷ []) k q
  old q k at =
      let its = named.from q k at in
      record { there = omega (arith, its.there, size); its = at_front names name k its.there ∙ its.its }

  from_test : (q : Octets) (k : ℕ) (b : Bool) → bytes_eq q name ≡ b → cond b (Some (length names)) (value_of places q) ≡ Some k
      → IsNamed (names ++ name ∷ []) k q
  from_test q k false test at = old q k at
  from_test q k true test at =
      let place : length names ≡ k = same_Some (length names) k at in
      record {
        there = omega (arith, place, size);
        its = ap (name_at (names ++ name ∷ [])) (sym place) ∙ at_end names name
            ∙ sym ((bytes_eq-Decides q name).0 test);
      }

  from : (q : Octets) (k : ℕ) → value_of more q ≡ Some k → IsNamed (names ++ name ∷ []) k q
  from q k at = from_test q k (bytes_eq q name) refl (sym (is q) ∙ at)

  swap : (q : Octets) → bytes_eq name q ≡ false → bytes_eq q name ≡ false
  swap q apart = bytes_differ q name (λ same. true≢false (sym ((bytes_eq-Decides name q).1 (sym same)) ∙ apart))

  to_old : (k : ℕ) → k < length names → value_of more (name_at (names ++ name ∷ []) k) ≡ Some k
  to_old k low =
      ap (value_of more) (at_front names name k low) ∙ is (name_at names k)
      ∙ ap (λ (b : Bool). cond b (Some (length names)) (value_of places (name_at names k)))
      (swap (name_at names k) (all_differ name names k new low)) ∙ named.to k low

  to_new : (k : ℕ) → k ≡ length names → value_of more (name_at (names ++ name ∷ []) k) ≡ Some k
  to_new k last =
      ap (λ (j : ℕ). value_of more (name_at (names ++ name ∷ []) j)) last ∙ ap (value_of more) (at_end names name) ∙ is name
      ∙ ap (λ (b : Bool). cond b (Some (length names)) (value_of places name)) ((bytes_eq-Decides name name).1 refl)
      ∙ ap (λ (j : ℕ). Some j) (sym last)

  to : (k : ℕ) → k < length (names ++ name ∷ []) → value_of more (name_at (names ++ name ∷ []) k) ≡ Some k
  to k low = elim (cases_lt k (length names)) [
    | inl below ↦ to_old k below
    | inr above ↦ to_new k (omega (arith, size))
  ]

pub named_pushed : {R : Type 0} (sh : R → GroupIndex) (gs all : List R) (g : R) (places more : Places) (name : Octets)
    → AreNamed places (heads (map sh gs)) → all ≡ gs ++ g ∷ [] → (sh g).group.name ≡ name
    → list_any (bytes_eq name) (heads (map sh gs)) ≡ false
    → ((q : Octets) → value_of more q ≡ cond (bytes_eq q name) (Some (length gs)) (value_of places q)) → AreNamed more (heads (map sh all))
named_pushed sh gs all g places more name named is its new at =
    let size : length (heads (map sh gs)) ≡ length gs = length-map (map sh gs) (λ (i : GroupIndex). i.group.name) ∙ length-map gs sh in
    let names : heads (map sh all) ≡ heads (map sh gs) ++ name ∷ [] =
    ap (λ xs. heads (map sh xs)) is ∙ ap heads (map_push sh gs g) ∙ map_push (λ (i : GroupIndex). i.group.name) (map sh gs) (sh g)
    ∙ ap (λ (n : Octets). heads (map sh gs) ++ n ∷ []) its in
    subst (AreNamed more) (sym names)
    (named_more places more (heads (map sh gs)) name named new (λ q. at q
    ∙ ap (λ (n : ℕ). cond (bytes_eq q name) (Some n) (value_of places q)) (sym size)))

-- ---- one element is replaced

-- where it passes nowhere
pub none_at : {X : Type 0} (test : X → Bool) (f : X → X) (xs : List X) (d : X) → ((j : ℕ) → j < length xs → test (get_or xs j d) ≡ false)
    → map (λ x. cond (test x) (f x) x) xs ≡ xs
none_at test f [] d apart = refl
none_at test f (x ∷ xs) d apart =
    let first : cond (test x) (f x) x ≡ x = ap (λ (b : Bool). cond b (f x) x) (apart 0 (omega arith)) in
    let rest = none_at test f xs d (λ j small. apart (suc j) (omega arith)) in
    λ i. first i ∷ rest i

-- where the test passes there alone
pub only_at : {X : Type 0} (test : X → Bool) (f : X → X) (xs : List X) (p : ℕ) (d : X) → p < length xs → test (get_or xs p d) ≡ true
    → ((j : ℕ) → j < length xs → j ≢ p → test (get_or xs j d) ≡ false)
    → set xs p (f (get_or xs p d)) ≡ map (λ x. cond (test x) (f x) x) xs
only_at test f [] p d low here apart = absurd (omega arith)
only_at test f (x ∷ xs) zero d low here apart =
    let first : f x ≡ cond (test x) (f x) x = ap (λ (b : Bool). cond b (f x) x) (sym here) in
    let rest : xs ≡ map (λ y. cond (test y) (f y) y) xs =
    sym (none_at test f xs d (λ j small. apart (suc j) (omega arith) (λ is. absurd (omega arith)))) in
    λ i. first i ∷ rest i
only_at test f (x ∷ xs) (suc p) d low here apart =
    let first : x ≡ cond (test x) (f x) x = ap (λ (b : Bool). cond b (f x) x) (sym (apart 0 (omega arith) (λ is. absurd (omega arith)))) in
    let rest = only_at test f xs p d (omega arith) here (λ j small other. apart (suc j) (omega arith) (λ is. other (omega arith))) in
    λ i. first i ∷ rest i
