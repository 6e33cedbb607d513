-- An expiry by age as far as it has come.
use Rattle.std.proofs.Common.{◌≡◌, ℕ, ◌+◌, refl, sym, ◌∙◌, ap, arith, [], ◌∷◌, subst}
use Rattle.std.specs.Prelude.{List, Result, Ok, length, min, ◌-◌, ◌^◌}
use Rattle.kernel_expiring.specs.Treating.{HasTreated, articles_of}
use Rattle.kernel_expiring.specs.declared.AgedArticles.{AgedArticles}
use Rattle.kernel_expiring.specs.declared.AgedGroup.{AgedGroup}
use Rattle.kernel_expiring.specs.declared.AgedGroup.TheVariants.{Spared, Aged}

-- so many groups are treated, with so many articles
pub record IsTreated {V E : Type 0} (found : V → ℕ → AgedGroup → Type 0) (treated : V → V → AgedArticles → Result Unit E → Type 0)
    (old new : V) (place articles : ℕ) : Type 0 where
  pub groups : List AgedGroup
  pub treats : HasTreated found treated old groups new
  pub many : length groups ≡ place
  pub counts : articles ≡ articles_of groups

module _ {V E : Type 0} (found : V → ℕ → AgedGroup → Type 0) (treated : V → V → AgedArticles → Result Unit E → Type 0) (old : V) where
  -- no group yet
  pub none_yet : IsTreated found treated old old 0 0
  none_yet = record { groups = []; treats = refl; many = refl; counts = refl }

  pub one_spared : (now : V) (place articles : ℕ) (group : AgedGroup) → IsTreated found treated old now place articles → group ≡ Spared
      → found now place group → IsTreated found treated old now (place + 1) articles
  one_spared now place articles group so_far is next = record {
    groups = Spared ∷ so_far.groups;
    treats = (so_far.treats, subst (λ (n : ℕ). found now n Spared) (sym so_far.many) (subst (found now place) is next));
    many = omega (arith, so_far.many);
    counts = so_far.counts;
  }

  pub one_aged : (now new : V) (place articles all : ℕ) (aged : AgedArticles) (group : AgedGroup) (result : Result Unit E)
      → IsTreated found treated old now place articles → group ≡ Aged aged → found now place group → result ≡ Ok tt
      → treated now new aged result → all ≡ min (articles + aged.articles) (2 ^ 64 - 1)
      → IsTreated found treated old new (place + 1) all
  one_aged now new place articles all aged group result so_far is next ok does sum = record {
    groups = Aged aged ∷ so_far.groups;
    treats = (
      now,
      so_far.treats,
      subst (λ (n : ℕ). found now n (Aged aged)) (sym so_far.many) (subst (found now place) is next),
      subst (treated now new aged) ok does,
    );
    many = omega (arith, so_far.many);
    counts = sum ∙ ap (λ (n : ℕ). min (n + aged.articles) (2 ^ 64 - 1)) so_far.counts;
  }
