-- An expiry by age, group by group.
use Rattle.std.specs.Prelude.{◌≡◌, ◌⊎◌, ℕ, ◌+◌, ◌-◌, ◌^◌, List, [], ◌∷◌, length, min, Result, Ok, Err}
use Rattle.kernel_expiring.specs.declared.AgedArticles.{AgedArticles}
use Rattle.kernel_expiring.specs.declared.AgedGroup.{AgedGroup}
use Rattle.kernel_expiring.specs.declared.AgedGroup.TheVariants.{Missing, Spared, Aged}

-- how many articles were treated, counted up to the greatest number that fits
abbrev pub articles_of : List AgedGroup → ℕ
articles_of [] = 0
articles_of (Aged aged ∷ before) = min (articles_of before + aged.articles) (2 ^ 64 - 1)
articles_of (g ∷ before) = articles_of before

-- these groups were found one after the other, the last one first, and what was old in each was treated. What is found at a place, and
-- what a treatment makes of the volume, say the relations
abbrev pub HasTreated : {V E : Type 0} → (V → ℕ → AgedGroup → Type 0) → (V → V → AgedArticles → Result Unit E → Type 0)
    → V → List AgedGroup → V → Type 0
HasTreated found treated old [] new = new ≡ old
HasTreated found treated old (Missing ∷ before) new = ⊥
HasTreated found treated old (Spared ∷ before) new = HasTreated found treated old before new × found new (length before) Spared
HasTreated {V} found treated old (Aged aged ∷ before) new =
    (then : V) × HasTreated found treated old before then × found then (length before) (Aged aged) × treated then new aged (Ok tt)

-- it ends behind the last group, or the last place that a number names, or where a treatment is refused
abbrev pub Ends : {V E : Type 0} → (V → ℕ → AgedGroup → Type 0) → (V → V → AgedArticles → Result Unit E → Type 0)
    → List AgedGroup → V → V → Result ℕ E → Type 0
Ends found treated groups last new (Ok articles) =
    (new ≡ last) × (found last (length groups) Missing ⊎ (length groups ≡ 2 ^ 64 - 1)) × (articles ≡ articles_of groups)
Ends found treated groups last new (Err e) =
    (aged : AgedArticles) × found last (length groups) (Aged aged) × treated last new aged (Err e)

-- an expiry treats the groups one after the other, and answers with the number of articles, or with the refusal that ended it
pub record Treats {V E : Type 0} (found : V → ℕ → AgedGroup → Type 0) (treated : V → V → AgedArticles → Result Unit E → Type 0)
    (old new : V) (result : Result ℕ E) : Type 0 where
  pub groups : List AgedGroup
  pub last : V
  pub treats : HasTreated found treated old groups last
  pub ends : Ends found treated groups last new result
